use Rattle.std.proofs.Common.{is_some, sym, ap, subst, refl, ◌∙◌}
use Rattle.std.proofs.lemmas.Option.{same_Some}
use Rattle.merge_info.specs.CanonicalValue.{value_of}
use Rattle.value_memo.specs.Parsed.{parsed_view}
use Rattle.value_memo.specs.SeenValue.{IsAnswered}
use Rattle.value_memo.proofs.seen.Seen.value.Goals.{in-Some, in-None}
use Rattle.value_memo.proofs.seen.Seen.value.Goals as goal

pub own-requires : goal.own-requires
own-requires c =
    let known = c.in_ok-learn.ensures.ok.known in
    rw c.shared.ensures.same (c.in-None.ensures.own (ap is_some known))

pub returns : goal.returns
returns c =
    let learned = c.in_ok-learn.ensures.ok in let same = c.shared.ensures.same in
    let seen = c.args.self.now in let id = c.args.id.0 in let text = c.args.text.now in
    (elim c.match-shared.branch [
      | in-Some w ↦
          let of_text = same_Some w.in-Some.reading.now.text.now text (sym w.in-Some.ensures.shared ∙ learned.known) in
          ((refl, λ _. tt, subst (IsAnswered seen id text) (sym (ap (λ s. s.0) w.self-is ∙ same)) learned), record { after = tt; reading = ap parsed_view w.result-is ∙ w.parsed.ensures ∙ ap value_of of_text; again = λ _. refl })
      | in-None w ↦
          let of_text = same_Some w.own.result.now.text.now text (sym (rw same at w.own.ensures) ∙ learned.known) in
          ((refl, λ _. tt, subst (IsAnswered seen id text) (sym (ap (λ s. s.0) w.self-is ∙ same)) learned), record { after = tt; reading = ap parsed_view w.result-is ∙ w.parsed-in-None.ensures ∙ ap value_of of_text; again = λ _. refl })
    ])
