-- Names and kinds that differ.
use Rattle.std.proofs.Common.{◌≡◌, ◌∙◌, sym, ℕ, List, true, false}
use Rattle.std.specs.Str.{bytes_eq}
use Rattle.std.proofs.lemmas.Slice.Eq.{bytes_eq-Decides}
use Rattle.pipe_edges.specs.declared.edges.EdgeKind.TheVariants.{File, Source, Sink}

true_is_not_false : true ≡ false → ⊥
true_is_not_false h = cc

pub differ : (a b : List ℕ) → a ≡ b → bytes_eq a b ≡ false → ⊥
differ a b same other = true_is_not_false (sym ((bytes_eq-Decides a b).1 same) ∙ other)

pub source_is_no_file : Source ≡ File → ⊥
source_is_no_file h = cc

pub file_is_no_source : File ≡ Source → ⊥
file_is_no_source h = cc

pub file_is_no_sink : File ≡ Sink → ⊥
file_is_no_sink h = cc

pub source_is_no_sink : Source ≡ Sink → ⊥
source_is_no_sink h = cc
