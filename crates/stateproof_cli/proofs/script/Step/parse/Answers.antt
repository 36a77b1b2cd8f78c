use Rattle.std.proofs.Common.{◌∷◌, ◌++◌, ap, ◌∙◌, lit<}
use Rattle.stateproof_cli.proofs.StepLines.{around_blank}
use Rattle.stateproof_cli.proofs.script.Step.parse.Goals as goal

pub returns-in_ok-value-in-put : goal.returns-in_ok-value-in-put
returns-in_ok-value-in-put c =
    let word = c.in_ok-word.ensures.byte (lit< tt) (λ w o h. h) in
    let spelled = c.in_ok-spelled-in-put.ensures.byte (lit< tt) (λ w o h. h) in (
      c.in_ok-spelled-in-put.spelled.now,
      c.in_ok-spelled-in-put.value.now,
      around_blank _ _ _ word.0 word.1 word.2 ∙ ap (λ w. w ++ 32 ∷ c.in_ok-word.rest.now) c.in-put.is
          ∙ ap (λ r. 112 ∷ 117 ∷ 116 ∷ 32 ∷ r) (around_blank _ _ _ spelled.0 spelled.1 spelled.2),
      c.in_ok-key-in-put.ensures,
      c.in_ok-value-in-put.ensures.0,
      c.in_ok-value-in-put.ensures.1,
    )

pub returns-in_ok-key-in-delete : goal.returns-in_ok-key-in-delete
returns-in_ok-key-in-delete c =
    let word = c.in_ok-word.ensures.byte (lit< tt) (λ w o h. h) in (
      c.in_ok-word.rest.now,
      around_blank _ _ _ word.0 word.1 word.2 ∙ ap (λ w. w ++ 32 ∷ c.in_ok-word.rest.now) c.in-delete.is,
      c.in_ok-key-in-delete.ensures,
    )
