use Rattle.std.proofs.Common.{◌≡◌, ℕ, false, ltb, [], ◌∷◌, ◌++◌, length, drop, get_or, Some, None, Err, Option, sym, ap, ◌∙◌, rules}
use Rattle.commands.specs.declared.refusal.Refusal.{Refusal}
use Rattle.commands.specs.Refusals.{unless, kept_or}
use Rattle.commands.specs.Reply.{replied}
use Rattle.bench.specs.declared.live.Live.{Live}
use Rattle.unit.specs.Commanding.{status, written}
use Rattle.unit.proofs.Served.{roomy, room, unrefused, refused, finished}
use Rattle.unit.proofs.state.State.write_register.Goals as goal

pub returns-in_err-ensure_takes : goal.returns-in_err-ensure_takes
returns-in_err-ensure_takes c =
    let s = c.args.self.now in
    let d = c.args.data.now in
    let b = c.args.buffer.now in
    let e : Refusal = c.in_err-ensure_takes.field-0.0 in
    let f : ltb (length b) 1 ≡ false = room _ c.in_ok-ensure_status_fits.ensures in
    let g = roomy s (length b) c.args.register d (Some e) f (refused _ e c.in_err-ensure_takes.ensures) in
    let r : c.from_residual-in_err-ensure_takes.result ≡ Err e = search rules in
    record {
      answer = r ∙ sym (ap (λ (o : Option Refusal). unless o 1) g);
      state = sym (ap (λ (o : Option Refusal). kept_or o s (written s c.args.register (get_or d 0 0))) g);
      buffer = sym (ap (λ (o : Option Refusal). kept_or o b ((status s ∷ []) ++ drop 1 b)) g);
    }

pub returns : goal.returns
returns c =
    let s = c.args.self.now in
    let d = c.args.data.now in
    let b = c.args.buffer.now in
    let r = c.args.register in
    let f : ltb (length b) 1 ≡ false = room _ c.in_ok-ensure_status_fits.ensures in
    let g = roomy s (length b) r d None f (unrefused _ c.in_ok-ensure_takes.ensures) in
    let h = finished b (status s) f in
    record {
      answer = c.reply.ensures.answer ∙ h.0 ∙ sym (ap (λ (o : Option Refusal). unless o 1) g);
      state =
          c.store.ensures ∙ ap (λ (v : ℕ). written s r v) c.first_byte.ensures
          ∙ sym (ap (λ (o : Option Refusal). kept_or o s (written s r (get_or d 0 0))) g);
      buffer =
          c.reply.ensures.after ∙ ap (λ (l : Live). replied b l.status []) c.live-status.ensures ∙ h.1
          ∙ sym (ap (λ (o : Option Refusal). kept_or o b ((status s ∷ []) ++ drop 1 b)) g);
    }
