-- Sources before anything was read.
use Rattle.std.proofs.Common.{◌≡◌, ℕ, zero, suc, List, [], ◌∷◌, ◌++◌, refl, sym, ap, subst, ◌∙◌, arith}
use Rattle.std.specs.Prelude.{Some, None, slice_get, map, reverse}
use Rattle.std.proofs.lemmas.List.{append_assoc, map-append, reverse-append}
use Rattle.std.proofs.lemmas.List.Elements.{All-nil, All-head, All-tail}
use Rattle.pipe_edges.specs.declared.source.ByteSource.{Ghosts as SourceOf}
use Rattle.pipe_edges.specs.Texts.{IsLine}
use Rattle.pipe_edges.specs.declared.reading.LineEnd.TheVariants as end
use Rattle.source_lines.specs.Seen.{source_seen, line_seen}
use Rattle.source_lines.specs.Read.{AreReadFrom}
use Rattle.line_merge.specs.Streams.{Both, lines_of}
use Rattle.line_merge.specs.Opening.{IsNew, AreNew, source_in}
use Rattle.line_merge.specs.declared.stream.Stream.{Stream}

-- nothing was read of a new one
nothing_read : {B : Type 0} (source : SourceOf B) (s : Stream B) → IsNew s → AreReadFrom (source_seen source (source_in s)) (line_seen source (lines_of s)) []
nothing_read source s new = record {
  same_telling = refl;
  each_is_a_line = All-nil IsLine;
  same_bytes = λ t. refl;
  to_come = λ t no_end. ap (λ held. held ++ source.left (source_in s)) (sym new.nothing_held);
  at_end = λ t is. let e : None ≡ Some end.End = sym new.no_end ∙ is in cc;
  at_long = λ is. let e : None ≡ Some end.TooLong = sym new.no_end ∙ is in cc;
  at_fault = λ is. let e : None ≡ Some end.Fault = sym new.no_end ∙ is in cc;
  faults_stay = omega arith;
  waits_stay = omega arith;
}

pub nothing_read_of_any : {B : Type 0} (source : SourceOf B) (streams : List (Stream B)) → AreNew streams
    → (k : ℕ) → Both (λ o lines. AreReadFrom o lines []) (slice_get (map (source_seen source) (map source_in streams)) k) (slice_get (map (λ s. line_seen source (lines_of s)) streams) k)
nothing_read_of_any source [] new k = tt
nothing_read_of_any source (s ∷ streams) new zero = nothing_read source s (All-head IsNew s streams new)
nothing_read_of_any source (s ∷ streams) new (suc k) = nothing_read_of_any source streams (All-tail IsNew s streams new) k

pub nothing_read_of_all : {B : Type 0} (source : SourceOf B) (sources : List B) (streams : List (Stream B)) → map source_in streams ≡ sources → AreNew streams
    → (k : ℕ) → Both (λ o lines. AreReadFrom o lines []) (slice_get (map (source_seen source) sources) k) (slice_get (map (λ s. line_seen source (lines_of s)) streams) k)
nothing_read_of_all source sources streams same new k =
    subst (λ os. Both (λ o lines. AreReadFrom o lines []) (slice_get (map (source_seen source) os) k) (slice_get (map (λ s. line_seen source (lines_of s)) streams) k)) same
    (nothing_read_of_any source streams new k)

-- the last source becomes the next one with its lines
pub moved : {B : Type 0} (streams : List (Stream B)) (s : Stream B) (rest all : List B) (o : B) → source_in s ≡ o → all ≡ rest ++ o ∷ []
    → map source_in (streams ++ s ∷ []) ++ reverse rest ≡ map source_in streams ++ reverse all
moved streams s rest all o is parts =
    ap (λ x. x ++ reverse rest) (map-append source_in streams (s ∷ []))
    ∙ append_assoc (map source_in streams) (source_in s ∷ []) (reverse rest)
    ∙ ap (λ x. map source_in streams ++ x) (ap (λ y. y ∷ reverse rest) is ∙ sym (reverse-append rest (o ∷ [])) ∙ ap reverse (sym parts))
