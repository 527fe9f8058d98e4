use Rattle.std.proofs.Common.{sym, ◌∙◌}
use Rattle.config_rule.proofs.form.parse_parts.Goals as goal

pub returns-then-is_word-4 : goal.returns-then-is_word-4
returns-then-is_word-4 c = λ names.
    rw (
      sym c.is_word.ensures ∙ c.if-is_word.false,
      sym c.is_word-else-is_word.ensures ∙ c.if-is_word-2.false,
      sym c.is_word-else-is_word-2.ensures ∙ c.if-is_word-3.false,
      sym c.is_word-else-is_word-3.ensures ∙ c.if-is_word-4.true,
    )
    (c.parse_key.ensures names)

pub returns-then-is_word-8 : goal.returns-then-is_word-8
returns-then-is_word-8 c = λ names.
    rw (
      sym c.is_word.ensures ∙ c.if-is_word.false,
      sym c.is_word-else-is_word.ensures ∙ c.if-is_word-2.false,
      sym c.is_word-else-is_word-2.ensures ∙ c.if-is_word-3.false,
      sym c.is_word-else-is_word-3.ensures ∙ c.if-is_word-4.false,
      sym c.is_word-else-is_word-4.ensures ∙ c.if-is_word-5.false,
      sym c.is_word-else-is_word-5.ensures ∙ c.if-is_word-6.false,
      sym c.is_word-else-is_word-6.ensures ∙ c.if-is_word-7.false,
      sym c.is_word-else-is_word-7.ensures ∙ c.if-is_word-8.true,
    )
    (c.parse_fail_every.ensures names)
