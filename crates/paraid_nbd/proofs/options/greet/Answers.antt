use Rattle.std.proofs.Common.{◌≡◌, ◌++◌, List, ℕ, subst, ◌∙◌, ap, append_assoc, OnOk, IfErr, codes, rules}
use Rattle.paraid_base.specs.Told.{GrowsByBytes}
use Rattle.paraid_nbd.specs.Numbers.{number_bytes}
use Rattle.paraid_nbd.specs.Handshake.{greeting, IsUnsent}
use Rattle.paraid_nbd.proofs.options.greet.Goals as goal

said : (g : _) (c : goal.After-send g) → c.put_u16.new.self ≡ greeting
unfolding greeting
said g c =
    c.put_u16.ensures.value ∙ ap (λ (t : List ℕ). t ++ number_bytes 2 3) (c.put_u64.ensures.value ∙ ap (λ (t : List ℕ). t ++ number_bytes 8 0x49484156454F5054) (c.put_bytes.ensures.value ∙ ap (λ (t : List ℕ). t ++ codes "NBDMAGIC") c.new-packet.ensures))
    ∙ append_assoc (codes "NBDMAGIC") (number_bytes 8 0x49484156454F5054) (number_bytes 2 3)

pub returns : goal.returns
returns g c = record {
  greets = subst (λ (t : List ℕ). OnOk c.send.result (GrowsByBytes (g.K.Sink.written c.args.sink.now) (g.K.Sink.written c.send.new.sink) t)) (said g c) c.send.ensures.sends;
  unsent = subst (λ (t : List ℕ). IfErr c.send.result (λ e. IsUnsent (g.K.Sink.written c.args.sink.now) (g.K.Sink.written c.send.new.sink) t (g.K.Sink.faults c.args.sink.now) (g.K.Sink.faults c.send.new.sink) e)) (said g c) c.send.ensures.unsent;
  later_sink = search rules;
  still_sink = search rules;
}
