-- Laws of how much is read.
use Rattle.std.proofs.Common.{◌≡◌, true, false, ℕ, ◌+◌, ◌≤◌, List, [], ◌++◌, length, arith, refl, ap, sym, ◌∙◌, inl, inr}
use Rattle.std.proofs.lemmas.List.{append_assoc, append-nil, length-append}
use Rattle.pipe_edges.specs.Texts.{IsLine}
use Rattle.std.specs.Prelude.{Option, Some, Result, Ok, Err, IsErr}
use Rattle.pipe_edges.specs.Fetch.{text_of}
use Rattle.pipe_edges.specs.declared.reading.LineEnd.{LineEnd}
use Rattle.pipe_edges.specs.declared.reading.LineEnd.TheVariants as end
use Rattle.pipe_edges.specs.Stop.{text_in}
use Rattle.pipe_edges.specs.declared.reading.Stop.{Stop}
use Rattle.pipe_edges.specs.Needed.{ReadsAsNeeded}

-- nothing is read
pub needed_none : (held held' : List ℕ) → held' ≡ held → ReadsAsNeeded held held' []
needed_none held held' same = inl (sym same)

-- one read behind a part of a line
pub needed_once : (held held' text part : List ℕ) → IsLine held → held ++ part ≡ text ++ held' → length (text ++ held') ≤ length held + 8192 → ReadsAsNeeded held held' text
needed_once held held' text part line kept short = inr (record {
  front = [];
  piece = part;
  parts = kept;
  one_piece = omega (arith, length-append held part, ap length kept, short);
  part_of_line = rw append-nil line;
})

-- one round after others
pub needed_more : (a b c text : List ℕ) → ReadsAsNeeded a b [] → ReadsAsNeeded b c text → ReadsAsNeeded a c text
needed_more a b c text (inl same) (inl cut) = inl (same ∙ cut)
needed_more a b c text (inl same) (inr read) = inr (rw same read)
needed_more a b c text (inr read) (inl cut) = inr (record {
  front = read.front;
  piece = read.piece;
  parts = read.parts ∙ cut;
  one_piece = read.one_piece;
  part_of_line = read.part_of_line;
})
needed_more a b c text (inr before) (inr read) =
    let bytes : List ℕ = before.front ++ before.piece in
    let joins : (more : List ℕ) → a ++ (bytes ++ more) ≡ b ++ more = λ more. sym (append_assoc a bytes more) ∙ ap (λ x. x ++ more) before.parts in
    inr (record {
      front = bytes ++ read.front;
      piece = read.piece;
      parts = ap (λ x. a ++ x) (append_assoc bytes read.front read.piece) ∙ joins (read.front ++ read.piece) ∙ read.parts;
      one_piece = read.one_piece;
      part_of_line = rw (joins read.front) read.part_of_line;
    })

-- an error hands nothing out
pub no_text : {E : Type 0} (result : Result Stop E) → IsErr result → text_in result ≡ []
no_text (Ok stop) failed = let wrong : false ≡ true = failed in cc
no_text (Err e) failed = refl

-- no records have no text, whatever the end
pub needed_err : (held held' : List ℕ) (known : Option LineEnd) → ReadsAsNeeded held held' (text_of known []) → ReadsAsNeeded held held' []
needed_err held held' (Some end.End) needed = needed
needed_err held held' _ needed = needed
