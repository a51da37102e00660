use Rattle.paraid_image.specs.Out.{named_out}
use Rattle.paraid_core.proofs.FillLemmas.{can_read_beside}
use Rattle.std.proofs.Common.{◌≡◌, ◌+◌, ◌≤◌, length, None, subst, OnOk, IsSome, rules, arith, ap, refl}
use Rattle.paraid_base.specs.Pairs.{pairs_of}
use Rattle.paraid_plan.specs.RowWrites.{StageAll}
use Rattle.paraid_core.specs.Cores.{core_rack}
use Rattle.paraid_core.specs.Plans.{LeadsTo, without_draft, desk_of}
use Rattle.paraid_core.proofs.staged.Core.draft_writes.Given.{Over}
use Rattle.paraid_core.proofs.staged.Core.draft_writes.Goals as goal
use Rattle.paraid_core.proofs.staged.Core.draft_writes.Goals.{After-write_blocks}

module _ (g : Over) (c : After-write_blocks g) where
  begun : record (record (record c.args.self.now { draft = c.clear.new.self }) { changes = c.clear-2.new.self }) { failed = None } ≡ without_draft c.args.self.now
  begun = λ i. record c.args.self.now { draft = c.clear.ensures i; changes = c.clear-2.ensures i; failed = None }

pub returns : goal.returns
returns g c = record {
  leads = subst (λ (z : _). LeadsTo g.R.Rack.slot_count g.R.Rack.slot g.R.Rack.told z c.write_blocks.new.plan) (begun g c) c.write_blocks.ensures.leads;
  whole = c.write_blocks.ensures.goes_on;
  few = search rules;
  fails = c.write_blocks.ensures.fails;
  writes =
      subst (λ (z : _). OnOk c.write_blocks.result (IsSome (g.R.Rack.told (core_rack c.write_blocks.new.plan)) → StageAll c.args.self.now.meta (desk_of g.R.Rack.told z) (desk_of g.R.Rack.told c.write_blocks.new.plan) (pairs_of c.args.pairs.now)))
      (begun g c) c.write_blocks.ensures.writes;
  some =
      subst (λ (z : _). OnOk c.write_blocks.result (IsSome (g.R.Rack.told (core_rack c.write_blocks.new.plan)) → length (desk_of g.R.Rack.told z).staged + 1 ≤ length c.write_blocks.new.plan.draft))
      (begun g c) c.write_blocks.ensures.grows;
  bits = c.write_blocks.ensures.bits;
}

pub write_blocks-requires : goal.write_blocks-requires
write_blocks-requires g c = record {
  serves = record { array = c.requires.serving.ready.array_is; rows = c.requires.serving.ready.rows_are; ready = can_read_beside g.R.Rack.slot_count g.R.Rack.slot g.R.Rack.told c.args.self.now c.requires.serving.ready c.requires.serving.serves (named_out c.args.self.now.meta.out) refl; out = refl; whole = refl };
  in_range = c.requires.serving.ready.in_range;
  blocks = c.requires.blocks;
  room = let none = ap length c.clear.ensures in let few = c.args.pairs.now.few in omega (arith, none, few);
  bits = let none = ap length c.clear-2.ensures in let few = c.args.pairs.now.few in omega (arith, none, few);
}
