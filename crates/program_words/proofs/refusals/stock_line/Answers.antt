use Rattle.program_words.proofs.refusals.stock_line.Goals as goal

-- src/refusals.rt:41:1
pub returns : goal.returns
returns c = rw (rw c.kind_word-word.ensures at c.in_ok-format.ensures.ok) at c.bytes_of.ensures
