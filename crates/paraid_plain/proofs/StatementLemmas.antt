-- What the log says of the targets of a batch, and which log disk goes first.
use Rattle.std.specs.Prelude.{◌≡◌, ◌≢◌, ℕ, ◌<◌, List, [], ◌∷◌, true, false, not, Option, Some, None, IfNone, IfSome, IsSomeAnd}
use Rattle.std.proofs.Common.{refl, sym, ◌∙◌, ap, subst, arith, zero, suc}
use Rattle.paraid_base.specs.declared.block.Block.{Block}
use Rattle.paraid_record.specs.declared.targets.Target.{Target}
use Rattle.std.proofs.lemmas.Bool.{true≢false}
use Rattle.paraid_rack.specs.Disks.{Disks}
use Rattle.paraid_image.specs.Sides.{AreBlocksLogged, LogState, Says, targets}
use Rattle.paraid_image.specs.Standing.{Stands, is_first, other_log, stands_before}
use Rattle.paraid_image.proofs.SidesLemmas.{Says-same}
use Rattle.paraid_image.proofs.StandingLemmas.{Stands-same}
use Rattle.paraid_plain.specs.declared.image.Image.{Image}
use Rattle.paraid_plain.specs.declared.statement.Statement.{Statement}
use Rattle.paraid_plain.specs.Images.{disks_in}
use Rattle.paraid_plain.specs.Statements.{batch_from, said_of}

pub targets-batch_at : (log : ℕ → Block) (p : ℕ) (ts : List Target) → targets (batch_from log p ts) ≡ ts
targets-batch_at log p [] = refl
targets-batch_at log p (t ∷ ts) = ap (λ (l : List Target). t ∷ l) (targets-batch_at log (suc p) ts)

pub batch_from-logged : (log : ℕ → Block) (p : ℕ) (ts : List Target) → AreBlocksLogged log p (batch_from log p ts)
batch_from-logged log p [] = tt
batch_from-logged log p (t ∷ ts) = (refl, batch_from-logged log (suc p) ts)

pub stands_before-first : (x : ℕ) (a b : LogState) → x ≡ 0 → stands_before x a b ≡ is_first a b
stands_before-first zero a b is = refl
stands_before-first (suc x) a b is = absurd (omega arith)

pub stands_before-second : (x : ℕ) (a b : LogState) → x ≢ 0 → stands_before x a b ≡ not (is_first b a)
stands_before-second zero a b not_zero = absurd (not_zero refl)
stands_before-second (suc x) a b not_zero = refl

module _ (i : Disks) (x d : ℕ) (mine : LogState) (is : d ≡ x) (says : Says i x mine) where
  -- a log disk whose other one says nothing stands
  pub stands_alone : x < 2 → ((said : LogState) → Says i (other_log x) said → ⊥) → Stands i d mine
  stands_alone log_disk silent = subst (λ (y : ℕ). Stands i y mine) (sym is) (record {
    log_disk = log_disk;
    says = says;
    first = λ other p. absurd (silent other p);
  })

  module _ (other : LogState) (says_other : Says i (other_log x) other) where
    pub stands_first : x < 2 → stands_before d mine other ≡ true → Stands i d mine
    stands_first log_disk before = subst (λ (y : ℕ). Stands i y mine) (sym is) (record {
      log_disk = log_disk;
      says = says;
      first = λ o p. ap (stands_before x mine) (Says-same i (other_log x) o other p says_other) ∙ ap (λ (y : ℕ). stands_before y mine other) (sym is) ∙ before;
    })

    pub stands_second : stands_before d mine other ≡ false → (said : LogState) → Stands i x said → ⊥
    stands_second after said stands =
        let same = Says-same i x said mine stands.says says in
        true≢false (sym (stands.first other says_other) ∙ ap (λ (s : LogState). stands_before x s other) same ∙ ap (λ (y : ℕ). stands_before y mine other) (sym is) ∙ after)

none_stands : (i : Disks) → ((said : LogState) → Stands i 0 said → ⊥) → ((said : LogState) → Stands i 1 said → ⊥) → (x : ℕ) (said : LogState) → Stands i x said → ⊥
none_stands i first second zero said stands = first said stands
none_stands i first second (suc zero) said stands = second said stands
none_stands i first second (suc (suc x)) said stands = let l : suc (suc x) < 2 = stands.log_disk in absurd (omega arith)

-- what the two log disks are found to say, the first one first
module _ (image : Image) where
  abbrev StandsBy : Statement → Type 0
  StandsBy s = Stands (disks_in image) s.disk (said_of image s)

  abbrev IsWhatStands : ℕ → LogState → Statement → Type 0
  IsWhatStands x said s = (s.disk ≡ x) × (said_of image s ≡ said)

  pub value_of_some : (s : Statement) → StandsBy s → (x : ℕ) (said : LogState) → Stands (disks_in image) x said → IsWhatStands x said s
  value_of_some s found x said stands = Stands-same (disks_in image) s.disk x (said_of image s) said found stands

  pub neither_stands : (r : Option Statement) → ((said : LogState) → Stands (disks_in image) 0 said → ⊥) → IfNone r ((said : LogState) → Stands (disks_in image) 1 said → ⊥)
      → IfNone r ((x : ℕ) (said : LogState) → Stands (disks_in image) x said → ⊥)
  neither_stands None first second = none_stands (disks_in image) first second
  neither_stands (Some s) first second = tt

  pub value_of_none : (r : Option Statement) → ((said : LogState) → Stands (disks_in image) 0 said → ⊥) → IfNone r ((said : LogState) → Stands (disks_in image) 1 said → ⊥)
      → IfSome r StandsBy → (x : ℕ) (said : LogState) → Stands (disks_in image) x said → IsSomeAnd r (IsWhatStands x said)
  value_of_none None first second found x said stands = absurd (none_stands (disks_in image) first second x said stands)
  value_of_none (Some s) first second found x said stands = value_of_some s found x said stands

-- what holds of both log disks
pub both_logs : (P : ℕ → Type 0) → P 0 → P 1 → (y : ℕ) → y < 2 → P y
both_logs P first second zero l = first
both_logs P first second (suc zero) l = second
both_logs P first second (suc (suc y)) l = absurd (omega arith)
