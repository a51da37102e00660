use Rattle.std.proofs.Common.{arith, ◌≡◌, ◌≢◌, ◌⊎◌, inl, inr, List, [], ◌++◌, Option, Bool, true, false, ℕ, subst, sym, ◌∙◌, ap, refl}
use Rattle.std.proofs.lemmas.Result.{err_from_is_err_and}
use Rattle.paraid_base.specs.Told.{GrowsByBytes}
use Rattle.paraid_base.proofs.ToldLemmas.{GrowsByBytes-none}
use Rattle.paraid_nbd.specs.declared.options.OptionKind.{OptionKind}
use Rattle.paraid_nbd.specs.declared.options.OptionKind.TheVariants.{Export, Abort, Names, Info, Go, Unknown}
use Rattle.paraid_nbd.specs.Options.{OptionParts, begins, kind_reply, option_kind, option_number, option_reply}
use Rattle.paraid_nbd.specs.Handshake.{AnswersOption, IsUnsent, TakesOption}
use Rattle.paraid_nbd.specs.Handshake.EndsOption.{Unread, Leaves, UnsentReply}
use Rattle.paraid_nbd.proofs.TakingLemmas.{ok_apart, passed}
use Rattle.paraid_nbd.proofs.options.option.Goals as goal

reply_said : (size : ℕ) (no_zeros : Bool) (p : OptionParts) {new old : List ℕ} {kind : OptionKind} {n : ℕ} → new ≡ old ++ kind_reply size no_zeros kind n → old ≡ [] → kind ≡ option_kind n
    → option_number p.head ≡ n → new ≡ option_reply size no_zeros p
reply_said size no_zeros p {new} {old} {kind} {n} value empty kind_is named =
    value ∙ ap (λ (o : List ℕ). o ++ kind_reply size no_zeros kind n) empty ∙ ap (λ (k : OptionKind). kind_reply size no_zeros k n) kind_is ∙ ap (λ (m : ℕ). kind_reply size no_zeros (option_kind m) m) (sym named)

begins_with : (k : OptionKind) → (k ≡ Export) ⊎ (k ≡ Go) → (k ≢ Abort) × (true ≡ begins k)
begins_with k is = elim is [ inl e ↦ (λ a. cc, rw e refl) | inr e ↦ (λ a. cc, rw e refl) ]

goes_on_with : (k : OptionKind) → (k ≡ Names) ⊎ ((k ≡ Info) ⊎ (k ≡ Unknown)) → (k ≢ Abort) × (false ≡ begins k)
goes_on_with k is = elim is [
  | inl e ↦ (λ a. cc, rw e refl)
  | inr more ↦ elim more [ inl e ↦ (λ a. cc, rw e refl) | inr e ↦ (λ a. cc, rw e refl) ]
]

answered : {a b w x : Option (List ℕ)} {i j size n : ℕ} {z : Bool} {said : List ℕ} {kind : OptionKind} (begun : Bool) (t : TakesOption a b i j n) → kind ≡ option_kind n
    → (kind ≢ Abort) × (begun ≡ begins kind) → said ≡ option_reply size z t.parts → GrowsByBytes w x said → AnswersOption size z a b i j w x begun
answered {w = w} {x = x} {kind = kind} begun t is stays said_is sends =
    let kind_is : kind ≡ option_kind (option_number t.parts.head) = is ∙ ap option_kind (sym t.number_is) in
    record { parts = t.parts; is = t.is; stays = λ e. stays.0 (kind_is ∙ e); begun_is = stays.1 ∙ ap begins kind_is; takes = t.takes; grows = subst (λ (y : List ℕ). GrowsByBytes w x y) said_is sends }

pub returns-in_err-number : goal.returns-in_err-number
returns-in_err-number g c =
    let p = err_from_is_err_and c.from_residual.result c.from_residual.ensures.1 in
    record {
      answers = rw p.1 tt;
      ends = rw (p.1, p.2) (Unread c.in_err-number.ensures.stops (GrowsByBytes-none _));
      later = c.in_err-number.ensures.later;
      still = passed p.1 p.2 c.in_err-number.ensures.still;
      later_sink = omega arith;
      still_sink = λ n. refl;
    }

pub returns-in_err-send : goal.returns-in_err-send
returns-in_err-send g c =
    let p = err_from_is_err_and c.from_residual-in_err-send.result c.from_residual-in_err-send.ensures.1 in
    let t = c.in_ok-number.ensures.takes in
    let said = reply_said c.args.size c.args.no_zeros t.parts c.put_option_reply.ensures.value c.new-packet.ensures c.kind_of-kind.ensures t.number_is in
    record {
      answers = rw p.1 tt;
      ends = rw (p.1, p.2) (UnsentReply t.parts t.is t.takes (subst (λ (x : List ℕ). IsUnsent (g.K.Sink.written c.args.sink.now) (g.K.Sink.written c.send.new.sink) x (g.K.Sink.faults c.args.sink.now) (g.K.Sink.faults c.send.new.sink) c.in_err-send.field-0.0) said c.in_err-send.ensures.unsent));
      later = c.in_ok-number.ensures.later;
      still = λ n. c.in_ok-number.ensures.still ok_apart;
      later_sink = c.in_err-send.ensures.later_sink;
      still_sink = passed p.1 p.2 c.in_err-send.ensures.still_sink;
    }

pub returns-in-Abort : goal.returns-in-Abort
returns-in-Abort g c =
    let t = c.in_ok-number.ensures.takes in
    let said = reply_said c.args.size c.args.no_zeros t.parts c.put_option_reply.ensures.value c.new-packet.ensures c.kind_of-kind.ensures t.number_is in
    record {
      answers = tt;
      ends = Leaves t.parts t.is (ap option_kind t.number_is ∙ sym c.kind_of-kind.ensures ∙ c.in-Abort.is) t.takes (subst (λ (x : List ℕ). GrowsByBytes (g.K.Sink.written c.args.sink.now) (g.K.Sink.written c.send.new.sink) x) said c.in_ok-send.ensures.sends) refl;
      later = c.in_ok-number.ensures.later;
      still = λ n. c.in_ok-number.ensures.still ok_apart;
      later_sink = c.in_ok-send.ensures.later_sink;
      still_sink = λ n. c.in_ok-send.ensures.still_sink ok_apart;
    }

pub returns-in-Export : goal.returns-in-Export
returns-in-Export g c =
    let t = c.in_ok-number.ensures.takes in
    let said = reply_said c.args.size c.args.no_zeros t.parts c.put_option_reply.ensures.value c.new-packet.ensures c.kind_of-kind.ensures t.number_is in
    record {
      answers = answered true t c.kind_of-kind.ensures (begins_with _ c.in-Export.is) said c.in_ok-send.ensures.sends;
      ends = tt;
      later = c.in_ok-number.ensures.later;
      still = λ n. c.in_ok-number.ensures.still ok_apart;
      later_sink = c.in_ok-send.ensures.later_sink;
      still_sink = λ n. c.in_ok-send.ensures.still_sink ok_apart;
    }

pub returns-in-Names : goal.returns-in-Names
returns-in-Names g c =
    let t = c.in_ok-number.ensures.takes in
    let said = reply_said c.args.size c.args.no_zeros t.parts c.put_option_reply.ensures.value c.new-packet.ensures c.kind_of-kind.ensures t.number_is in
    record {
      answers = answered false t c.kind_of-kind.ensures (goes_on_with _ c.in-Names.is) said c.in_ok-send.ensures.sends;
      ends = tt;
      later = c.in_ok-number.ensures.later;
      still = λ n. c.in_ok-number.ensures.still ok_apart;
      later_sink = c.in_ok-send.ensures.later_sink;
      still_sink = λ n. c.in_ok-send.ensures.still_sink ok_apart;
    }
