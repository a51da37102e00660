use Rattle.std.proofs.Common.{◌≡◌, ℕ, Bool, true, cond, replicate, sym, ◌∙◌, ap}
use Rattle.paraid_memrack.specs.declared.stop.Pick.{Pick}
use Rattle.paraid_memrack.specs.declared.stop.Pick.TheVariants.{Filled}
use Rattle.paraid_memrack.specs.declared.versions.Versions.{Versions}
use Rattle.paraid_memrack.specs.Stop.{picked_bytes}
use Rattle.paraid_memrack.specs.Versions.{left_bytes}
use Rattle.paraid_memrack.proofs.versions.Versions.left.Goals as goal

left_bytes-filled : (pick : Pick) (v : Versions) (byte : ℕ) → pick ≡ Filled byte → v.loose ≡ true → left_bytes pick v ≡ replicate 512 byte
left_bytes-filled pick v byte is loose =
    ap (λ (b : Bool). cond b (picked_bytes pick v.kept.bytes v.written.bytes) v.written.bytes) loose ∙ ap (λ (p : Pick). picked_bytes p v.kept.bytes v.written.bytes) is

pub returns-in-Filled : goal.returns-in-Filled
returns-in-Filled c = c.from_array.ensures ∙ sym (left_bytes-filled c.args.pick c.args.self.now c.in-Filled.byte c.in-Filled.is c.if-not-self.false)
