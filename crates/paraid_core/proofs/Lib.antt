mod CanBeginLemmas
pub mod MomentLemmas
mod RejoinLemmas
pub mod AttachStoodLemmas
pub mod LostDiskLemmas
pub mod ReadyLemmas
pub mod DirtyLemmas
pub mod ReadsLemmas
pub mod AfterLemmas
pub mod CommitLemmas
pub mod WriteLemmas
pub mod PlanLemmas
mod AttachLemmas
mod TakeLemmas
mod TryLemmas
mod AcceptLemmas
pub mod ChainLemmas
pub mod FailLemmas
pub mod CleanLemmas
mod BitsLemmas
pub mod ErrLemmas
pub mod UnsyncedLemmas
mod BorneLemmas
pub mod CallLemmas
pub mod SettleLemmas
pub mod StepLemmas
pub mod StripeLemmas
pub mod GatherLemmas
pub mod UnitCopyLemmas
pub mod UnitWriteLemmas
pub mod UnitMarkLemmas
pub mod FillLemmas
pub mod MarkLemmas
pub mod ParkLemmas
pub mod SpinLemmas
pub mod OutLemmas
pub mod GoneLemmas
pub mod StoredLemmas
pub mod FreeWriteLemmas
pub mod CopyCellLemmas
pub mod SinceLemmas
pub mod MarkCellLemmas
pub mod LossShiftLemmas
pub mod SettleCellLemmas
pub mod TurnLemmas
pub mod SettleUnitLemmas
pub mod KindLemmas
pub mod BeginLemmas
mod LeadsLemmas
pub mod OrderLemmas
pub mod StoodLemmas
pub mod LostMarkLemmas
pub mod OldNewLemmas
pub mod RestLemmas
