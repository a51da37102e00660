use Rattle.std.proofs.Common.{◌<◌, ◌∙◌, length, sym, arith}
use Rattle.std.proofs.lemmas.List.Elements.{All-push, All-same}
use Rattle.paraid_rack.specs.declared.call.Call.{Call}
use Rattle.paraid_rack.specs.Calls.{disk_of}
use Rattle.paraid_memrack.proofs.PlanLemmas.{lt_true, lt_false, counted_push, count_on-le-length, listed_more, listed_same}
use Rattle.paraid_memrack.proofs.NoteLemmas.{told_more, told_none}
use Rattle.paraid_memrack.proofs.log.Log.note.Goals as goal

pub overflow_cast-len : goal.overflow_cast-len
overflow_cast-len c = omega (arith, c.len.ensures, c.args.self.now.calls.ok.0, c.args.self.now.few, c.args.self.now.short)

pub overflow_add-self : goal.overflow_add-self
overflow_add-self c =
    let log = c.args.self.now in
    omega (arith, c.len.ensures, log.calls.ok.0, log.short, c.if-len-self.true, log.counted c.args.disk c.requires.small, count_on-le-length c.args.disk log.calls.items)

pub invariant_of-self-clause-counted : goal.invariant_of-self-clause-counted
invariant_of-self-clause-counted c =
    let log = c.args.self.now in
    counted_push log.counts log.calls.items _ c.args.call c.args.disk c.requires.on (omega (arith, log.wide, c.requires.small)) c.requires.small c.push_reserved.ensures.items log.counted

pub returns-then-len-self-clause-calls : goal.returns-then-len-self-clause-calls
returns-then-len-self-clause-calls c =
    let log = c.args.self.now in
    c.push_reserved.ensures.items ∙ sym (listed_more log.most c.len.result log.calls.items c.args.call (omega (arith, c.len.ensures, log.calls.ok.0)) c.if-len-self.true)

pub returns-else-len-self-clause-calls : goal.returns-else-len-self-clause-calls
returns-else-len-self-clause-calls c =
    let log = c.args.self.now in
    sym (listed_same log.most c.len.result log.calls.items c.args.call (omega (arith, c.len.ensures, log.calls.ok.0)) c.if-len-self.false)

pub returns-then-len-self-clause-told : goal.returns-then-len-self-clause-told
returns-then-len-self-clause-told c =
    let log = c.args.self.now in
    told_more log.tells log.start.items log.calls.items _ c.args.call _ (lt_true _ _ (omega (arith, c.len.ensures, log.calls.ok.0, c.if-len-self.true))) c.push_reserved.ensures.items

pub returns-else-len-self-clause-told : goal.returns-else-len-self-clause-told
returns-else-len-self-clause-told c =
    let log = c.args.self.now in
    told_none log.tells log.start.items log.calls.items c.args.call _ (lt_false _ _ (omega (arith, c.len.ensures, log.calls.ok.0, c.if-len-self.false)))

pub invariant_of-self-clause-on_slots : goal.invariant_of-self-clause-on_slots
invariant_of-self-clause-on_slots c =
    let log = c.args.self.now in
    let on_slot = λ (call : Call). disk_of call < length log.start.items in
    let here : disk_of c.args.call < length log.start.items = omega (arith, c.requires.on, c.requires.exists) in
    All-same on_slot _ _ c.push_reserved.ensures.items (All-push on_slot log.calls.items c.args.call log.on_slots here)
