-- Where an array stands that has answered no event yet, and what it tells of the point at which it stands.
use Rattle.std.proofs.Common.{◌≡◌, ℕ, [], length, Option, Some, None, refl, sym, ◌∙◌, subst}
use Rattle.paraid_gear.specs.ThreeWindows.{HoldLastSamples}
use Rattle.paraid_rack.specs.Trail.{Trail}
use Rattle.paraid_session.specs.Turn.{Point}
use Rattle.paraid_event.specs.Service.{service_of}
use Rattle.paraid_event.specs.Stands.{StandsAt}
use Rattle.paraid_array.specs.declared.array.Array.{Array}
use Rattle.paraid_array.specs.declared.ended.HaltedAt.{HaltedAt}
use Rattle.paraid_array.specs.Arrays.{ArrayStandsAt, told_of_array}
use Rattle.paraid_array.specs.Lasting.{halt_of_end}
use Rattle.paraid_array.proofs.StandLemmas.{none_ended, none_some}

module _ {R : Type 0} {g : _} (count : R → ℕ) (told : R → Option Trail) (a : Array R g) where
  -- after a mount
  pub begins_at : a.ended ≡ None → a.served ≡ 0 → a.ledger.total ≡ 0 → HoldLastSamples a.windows []
      → (p : Point) → StandsAt (told_of_array told a) (service_of count a.core [] 0 0) a.setup p → ArrayStandsAt count told a p
  begins_at going served energy windows p at = record {
    serves = λ e. record {
      samples = [];
      requests = 0;
      windows = windows;
      served = served;
      stands = subst (λ (n : ℕ). StandsAt (told_of_array told a) (service_of count a.core [] 0 n) a.setup p) (sym energy) at;
    };
    halted = λ e some. none_some a.ended e going some;
  }

  -- the energy and the number of writes
  pub energy_at : (p : Point) → ArrayStandsAt count told a p → a.ledger.total ≡ p.energy
  energy_at p at = by a.ended refl
    where
      by : (o : Option HaltedAt) → a.ended ≡ o → a.ledger.total ≡ p.energy
      by None e = sym (at.serves e).stands.energy
      by (Some x) e = sym (at.halted x e).energy

  pub writes_at : halt_of_end a.ended ≡ None → (p : Point) → ArrayStandsAt count told a p → a.core.meta.writes ≡ length p.history
  writes_at going p at = (at.serves (none_ended a.ended going)).stands.stands.keeps.writes

  -- the gear, after a halt that before it
  pub gear_at : (p : Point) → ArrayStandsAt count told a p → (o : Option HaltedAt) → a.ended ≡ o → (gear : ℕ)
      → ((e : HaltedAt) → o ≡ Some e → gear ≡ e.gear) → (o ≡ None → gear ≡ a.core.meta.gear) → gear ≡ p.state.gear
  gear_at p at None is gear some none = none refl ∙ sym (at.serves is).stands.state.gear
  gear_at p at (Some e) is gear some none = some e refl ∙ sym (at.halted e is).gear
