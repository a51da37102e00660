use Rattle.std.proofs.Common.{refl, sym, ◌∙◌, subst}
use Rattle.paraid_rack.specs.declared.call.Call.TheVariants.{Read, Write, Sync, Park, SpinUp, Attach}
use Rattle.paraid_memrack.specs.Past.{Past, past_of, MakesPast}
use Rattle.paraid_memrack.proofs.PastLemmas.{follows_as, follows_failed, follows_read, follows_write, follows_sync, follows_park, follows_spin_up, follows_attach}
use Rattle.paraid_memrack.proofs.past.PastSlot.follow.Goals as goal

pub returns-then-not-is_done : goal.returns-then-not-is_done
returns-then-not-is_done c =
    subst (λ (w : Past). MakesPast c.args.call.now (past_of c.args.self.now) w) (sym c.vanish.ensures)
    (follows_failed c.args.call.now (past_of c.args.self.now) (sym c.is_done.ensures ∙ c.if-not-is_done.true))

pub returns-in-Read : goal.returns-in-Read
returns-in-Read c =
    let done = sym c.is_done.ensures ∙ c.if-not-is_done.false in
    let arm = c.in-Read in
    follows_as (λ b. Read arm.disk arm.place b) arm.done (λ b. refl) arm.is done (follows_read arm.disk arm.place (past_of c.args.self.now)) refl

pub returns-in-Write : goal.returns-in-Write
returns-in-Write c =
    let done = sym c.is_done.ensures ∙ c.if-not-is_done.false in
    let arm = c.in-Write in
    follows_as (λ b. Write arm.disk arm.place arm.bytes b) arm.done (λ b. refl) arm.is done (follows_write arm.disk arm.place arm.bytes (past_of c.args.self.now)) c.write.ensures

pub returns-in-Sync : goal.returns-in-Sync
returns-in-Sync c =
    let done = sym c.is_done.ensures ∙ c.if-not-is_done.false in
    let arm = c.in-Sync in
    follows_as (λ b. Sync arm.disk b) arm.done (λ b. refl) arm.is done (follows_sync arm.disk (past_of c.args.self.now)) c.mark_synced.ensures

pub returns-in-Park : goal.returns-in-Park
returns-in-Park c =
    let done = sym c.is_done.ensures ∙ c.if-not-is_done.false in
    let arm = c.in-Park in
    follows_as (λ b. Park arm.disk b) arm.done (λ b. refl) arm.is done (follows_park arm.disk (past_of c.args.self.now)) c.turn.ensures

pub returns-in-SpinUp : goal.returns-in-SpinUp
returns-in-SpinUp c =
    let done = sym c.is_done.ensures ∙ c.if-not-is_done.false in
    let arm = c.in-SpinUp in
    follows_as (λ b. SpinUp arm.disk b) arm.done (λ b. refl) arm.is done (follows_spin_up arm.disk (past_of c.args.self.now)) c.turn-in-SpinUp.ensures

pub returns-in_ok-attach-in-Attach : goal.returns-in_ok-attach-in-Attach
returns-in_ok-attach-in-Attach c =
    let done = sym c.is_done.ensures ∙ c.if-not-is_done.false in
    let arm = c.in-Attach in
    follows_as (λ b. Attach arm.disk arm.size b) arm.done (λ b. refl) arm.is done (follows_attach arm.disk arm.size (past_of c.args.self.now)) c.in_ok-attach-in-Attach.ensures
