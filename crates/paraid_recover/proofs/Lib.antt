pub mod ReadsLemmas
pub mod FoundLemmas
pub mod AttachLemmas
pub mod LogLemmas
pub mod FormatLemmas
pub mod UnchangedLemmas
pub mod HeardLemmas
pub mod BodyLemmas
pub mod BothLemmas
pub mod FailedLemmas
pub mod WearLemmas
mod AlikeLemmas
mod PairingLemmas
mod CauseLemmas
mod ExactLemmas
pub mod ExaminedLogLemmas
mod LackingLemmas
mod ServedLemmas
mod SidesLemmas
mod SizesLemmas
pub mod StillLemmas
pub mod FallbackLemmas
pub mod ResumeMetasLemmas
pub mod CommitMetasLemmas
pub mod RestMetasLemmas
pub mod MarkMomentLemmas
pub mod DirtyKeptLemmas
pub mod KeepsDirtyLemmas
pub mod ExaminedHeldLemmas
pub mod ShownLemmas
pub mod FarLemmas
pub mod BatchFarLemmas
pub mod MapEndLemmas
pub mod MapServedLemmas
pub mod ExaminedLemmas
pub mod ServableLemmas
pub mod FitLemmas
pub mod OneMarkedLemmas
pub mod TurnsLemmas
pub mod BearingLemmas
pub mod OpenLemmas
pub mod UnwrittenLemmas
pub mod BearerLemmas
pub mod NotedLemmas
pub mod PowersLemmas
pub mod MapLemmas
pub mod MarkHeldLemmas
pub mod RecoverLemmas
pub mod HeldAtRestLemmas
pub mod QuietCallsLemmas
pub mod WitnessLemmas
pub mod EndsLemmas
pub mod RenewLemmas
pub mod MountCallsLemmas
pub mod GoneLemmas
pub mod SecondLossLemmas
mod RaisedLemmas
mod LogReadsLemmas
mod HeadLemmas
mod SyncedLemmas
pub mod CallsLemmas
pub mod DownLemmas
pub mod StartReadsLemmas
pub mod SetupLemmas
pub mod FirstLemmas
pub mod SpinsLemmas
pub mod PartsLemmas
pub mod BaseLemmas
pub mod RestLemmas
pub mod BeginsLemmas
pub mod StartStillLemmas
pub mod BasedLemmas
pub mod BeganLemmas
pub mod MayLoseLemmas
pub mod StoryLemmas
pub mod LostLemmas
pub mod ReadDirtyLemmas
pub mod StartServedLemmas
pub mod ReadWithinLemmas
pub mod ForeseenLemmas
pub mod WithinLemmas
pub mod PiecesLemmas
pub mod RefusedLemmas
pub mod ToldLemmas
pub mod MountedLemmas
