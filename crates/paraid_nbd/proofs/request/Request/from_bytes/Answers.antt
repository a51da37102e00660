use Rattle.std.proofs.Common.{◌≡◌, ◌-◌, ◌∙◌, ℕ, List, length, take, drop, arith, ap, length-drop}
use Rattle.std.proofs.lemmas.List.{take_all}
use Rattle.paraid_nbd.specs.declared.request.Command.{Command}
use Rattle.paraid_nbd.specs.declared.request.Request.{Request}
use Rattle.paraid_nbd.specs.Numbers.{number}
use Rattle.paraid_nbd.specs.Requests.{command_in, request_in}
use Rattle.paraid_nbd.proofs.request.Request.from_bytes.Goals as goal

rest_is : (k : ℕ) (bytes : List ℕ) → take (length bytes - k) (drop k bytes) ≡ drop k bytes
rest_is k bytes = take_all (length bytes - k) (drop k bytes) (omega (arith, length-drop k bytes))

by_fields : {f cookie offset count f' cookie' offset' count' : ℕ} {k k' : Command} → f ≡ f' → k ≡ k' → cookie ≡ cookie' → offset ≡ offset' → count ≡ count'
    → ◌≡◌ {A = Request} (record { flags = f; command = k; cookie = cookie; offset = offset; length = count }) (record { flags = f'; command = k'; cookie = cookie'; offset = offset'; length = count' })
by_fields a b c d e = cc

pub returns : goal.returns
unfolding request_in number
returns c =
    let bytes : List ℕ = c.args.bytes.now in
    by_fields c.read_u16.ensures (c.command_of.ensures ∙ ap command_in (c.read_u16-2.ensures ∙ ap (number 2) (rest_is 2 bytes))) (c.read_u64.ensures ∙ ap (number 8) (rest_is 4 bytes))
    (c.read_u64-2.ensures ∙ ap (number 8) (rest_is 12 bytes)) (c.read_u32.ensures ∙ ap (number 4) (rest_is 20 bytes))
