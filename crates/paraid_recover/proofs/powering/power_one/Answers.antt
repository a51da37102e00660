use Rattle.std.specs.Prelude.{◌≡◌, ◌≢◌, Some}
use Rattle.std.proofs.Common.{ap, inl, inr, sym, ◌∙◌}
use Rattle.std.proofs.lemmas.Bool.{cases_lt, true≢false}
use Rattle.paraid_rack.specs.declared.call.Power.TheVariants.{Absent, Parked, Spinning}
use Rattle.paraid_rack.specs.Disks.{is_present}
use Rattle.paraid_image.specs.Out.{named_out}
use Rattle.paraid_txn.specs.Stores.{store_rack}
use Rattle.paraid_recover.proofs.ExaminedLogLemmas.{not_named, out_named}
use Rattle.paraid_recover.proofs.PowersLemmas.{turned_none}
use Rattle.paraid_recover.proofs.powering.power_one.Goals as goal

pub spin_up_one-requires : goal.spin_up_one-requires
spin_up_one-requires g c =
    let parked : (g.R.Rack.slot (store_rack c.args.store.now) c.args.disk).power ≡ Parked = sym c.power.ensures ∙ c.in-Parked.is in
    let in_use : named_out c.args.meta.now.out ≢ Some c.args.disk = not_named _ _ (sym c.names.ensures ∙ c.if-names.false) in
    record {
      exists = c.requires.exists;
      low = c.requires.low;
      parked = parked;
      high = elim (cases_lt c.args.disk c.args.meta.now.gear) [ inl low ↦ absurd (c.requires.awake low in_use parked) | inr high ↦ high ];
      in_use = in_use;
    }

pub park_one-requires : goal.park_one-requires
park_one-requires g c =
    let spinning : (g.R.Rack.slot (store_rack c.args.store.now) c.args.disk).power ≡ Spinning = sym c.power.ensures ∙ c.in-Spinning.is in
    let in_use : named_out c.args.meta.now.out ≢ Some c.args.disk = not_named _ _ (sym c.names.ensures ∙ c.if-names.false) in
    record {
      exists = c.requires.exists;
      low = c.requires.low;
      spinning = spinning;
      synced = c.requires.synced in_use (ap is_present spinning);
      in_use = in_use;
    }

pub returns-then-names : goal.returns-then-names
returns-then-names g c = turned_none g.R.Rack c.args.meta.now c.args.disk c.args.store.now (λ not here. absurd (not (out_named _ _ (sym c.names.ensures ∙ c.if-names.true))))

pub returns-in-Absent : goal.returns-in-Absent
returns-in-Absent g c =
    let gone : (g.R.Rack.slot (store_rack c.args.store.now) c.args.disk).power ≡ Absent = sym c.power.ensures ∙ c.in-Absent.is in
    turned_none g.R.Rack c.args.meta.now c.args.disk c.args.store.now (λ not here. absurd (true≢false (sym here ∙ ap is_present gone)))

pub returns-in-Parked : goal.returns-in-Parked
returns-in-Parked g c = c.spin_up_one.ensures

pub returns-in-Spinning : goal.returns-in-Spinning
returns-in-Spinning g c = c.park_one.ensures
