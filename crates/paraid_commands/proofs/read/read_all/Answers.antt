use Rattle.std.proofs.Common.{◌<◌, ◌≤◌, ◌-◌, ◌++◌, length, take, arith, rules, ◌∙◌, refl}
use Rattle.paraid_base.proofs.ToldLemmas.{Gives-none, Gives-then}
use Rattle.paraid_commands.proofs.ReadingLemmas.{less_room, still_short, too_long}
use Rattle.paraid_commands.proofs.read.read_all.Goals as goal

pub returns-then-count-len : goal.returns-then-count-len
returns-then-count-len g c = record {
  all = search rules;
  end = search rules;
  short = search rules;
  unread =
      let i = c.loop-count.invariant in
      let e = c.in-Ok.ensures in
      let within : c.in-Ok.count ≤ length c.read_some.new.into = omega (arith, e.within, c.read_some.auto.into) in
      let part : length c.read_some.new.into ≤ 4096 = omega (arith, c.read_some.auto.into) in
      let many : 65536 - length c.loop-count.bytes.items < c.in-Ok.count = omega (arith, c.if-count-len.true, c.len.ensures, c.loop-count.bytes.ok.0) in
      record {
        bytes = c.loop-count.bytes.items ++ take c.in-Ok.count c.read_some.new.into;
        given = Gives-then _ _ _ _ _ i.given e.gives;
        cause = too_long c.loop-count.bytes.items c.read_some.new.into c.in-Ok.count i.short part within many;
      };
  later = search rules;
  still = λ n. c.in-Ok.ensures.still ∙ c.loop-count.invariant.still;
}

pub loop-count-init : goal.loop-count-init
loop-count-init g c = rw c.new-bytes.ensures.items (record { given = Gives-none _; short = omega arith; still = refl })

pub loop-count-preserved : goal.loop-count-preserved
loop-count-preserved g c =
    let i = c.loop-count.invariant in
    let e = c.in-Ok.ensures in
    let few : c.in-Ok.count ≤ 65536 - length c.loop-count.bytes.items = omega (arith, c.if-count-len.false, c.len.ensures, c.loop-count.bytes.ok.0) in
    rw c.in-Ok-extend_from_slice.ensures.items (record {
      given = Gives-then _ _ _ _ _ i.given e.gives;
      short = still_short c.loop-count.bytes.items c.read_some.new.into c.in-Ok.count i.short few;
      still = e.still ∙ i.still;
    })

pub loop-count-smaller : goal.loop-count-smaller
loop-count-smaller g c =
    let within : c.in-Ok.count ≤ length c.read_some.new.into = omega (arith, c.in-Ok.ensures.within, c.read_some.auto.into) in
    let few : c.in-Ok.count ≤ 65536 - length c.loop-count.bytes.items = omega (arith, c.if-count-len.false, c.len.ensures, c.loop-count.bytes.ok.0) in
    rw c.in-Ok-extend_from_slice.ensures.items (less_room c.loop-count.bytes.items c.read_some.new.into c.in-Ok.count within (omega (arith, c.if-count-eq0.false)) few)

pub returns-in_default-extend_from_slice : goal.returns-in_default-extend_from_slice
returns-in_default-extend_from_slice g c = record {
  all = search rules;
  end = search rules;
  short = search rules;
  unread =
      let i = c.loop-count.invariant in
      let few : c.in-Ok.count ≤ 65536 - length c.loop-count.bytes.items = omega (arith, c.if-count-len.false, c.len.ensures, c.loop-count.bytes.ok.0) in
      record {
        bytes = c.loop-count.bytes.items ++ take c.in-Ok.count c.read_some.new.into;
        given = Gives-then _ _ _ _ _ i.given c.in-Ok.ensures.gives;
        cause = still_short c.loop-count.bytes.items c.read_some.new.into c.in-Ok.count i.short few;
      };
  later = search rules;
  still = λ n. c.in-Ok.ensures.still ∙ c.loop-count.invariant.still;
}
