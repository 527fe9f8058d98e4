-- A source that was made of records gives these records.
use Rattle.std.proofs.Common.{◌≡◌, ◌≤◌, ℕ, List, [], ◌∷◌, ◌++◌, length, Bool, arith, refl, ap, sym, ◌∙◌, subst, inl, inr}
use Rattle.std.specs.Prelude.{All, IsSome, Option, None, true, false}
use Rattle.std.proofs.lemmas.List.{append-nil, length-append}
use Rattle.std.proofs.lemmas.List.Elements.{All-nil, All-cons, All-head, All-tail}
use Rattle.pipe_types.specs.Counts.{Rose}
use Rattle.pipe_types.specs.Lines.{max_bytes, pieces, lines}
use Rattle.pipe_types.specs.declared.numbers.StageNo.{StageNo}
use Rattle.pipe_types.specs.declared.topology.Rate.{Rate}
use Rattle.pipe_model.specs.History.{History}
use Rattle.pipe_model.specs.Outside.{fed}
use Rattle.pipe_edges.specs.Paces.{PaceSeen, unpaced}
use Rattle.pipe_edges.specs.Texts.{IsLine, ended}
use Rattle.pipe_edges.proofs.TextLaws.{lines_ended, lines_nil, pieces_front}
use Rattle.source_lines.specs.Cut.{AreAllLines, AreFirstLines, AreLinesBeforeLong, HasShortLines}
use Rattle.pipe_laws.specs.Read.{quiets}
use Rattle.stage_job.specs.Chunks.{RoseBy}
use Rattle.stage_bodies.specs.Seen.{SourceSeen}
use Rattle.edge_names.specs.Gates.{HasNoWait}
use Rattle.pipe_run.specs.Outside.{IsMadeRead}
use Rattle.pipe_run.specs.Records.{ReadsRecords}

lines_are : (records : List (List ℕ)) → All IsLine records → lines (ended records) ≡ records
lines_are records each = ap lines (sym (append-nil (ended records))) ∙ (lines_ended records [] each ∙ (ap (λ w. records ++ w) lines_nil ∙ append-nil records))

none_behind : (front rest : List ℕ) → front ≡ front ++ rest → length rest ≡ 0
none_behind front rest e = omega (arith, length-append front rest, ap length e)

not_too_long : (records read : List (List ℕ)) → All IsLine records → AreLinesBeforeLong (ended records) read → ⊥
not_too_long records read each before =
    let same : read ≡ records = before.all ∙ lines_are records each in
    let parts : ended records ≡ ended records ++ before.rest = before.parts ∙ ap (λ r. ended r ++ before.rest) same in
    let none = none_behind (ended records) before.rest parts in
    omega (arith, none, before.long.long)

not_risen : (now : ℕ) → now ≡ 0 → Rose 0 now → ⊥
not_risen now none (inl low) = omega (arith, none, low)
not_risen now none (inr full) = omega (arith, none, full)

none_risen : (times now : ℕ) → now ≡ 0 → RoseBy times 0 now → times ≡ 0
none_risen times now none (inl low) = omega (arith, none, low)
none_risen times now none (inr full) = absurd (omega (arith, none, full))

-- without a gate no wait was counted
no_waits : (source : SourceSeen) → HasNoWait source → source.paced ≡ unpaced → source.waits ≡ 0
no_waits source (inl none) plain = none
no_waits source (inr (some, own)) plain =
    let none : IsSome unpaced.pace = subst (λ (p : PaceSeen). IsSome p.pace) plain some in
    let x : false ≡ true = none in cc

pub reads_records : (whole : Bool) (rate : Option Rate) (before : History) (p : StageNo) (records : List (List ℕ)) (source : SourceSeen) → All IsLine records → IsMadeRead whole before p (ended records) source
    → (rate ≡ None → source.paced ≡ unpaced) → ReadsRecords whole rate before p records
reads_records whole rate before p records source each made plain =
    let bytes = made.same_bytes in
    let first = subst (λ b. AreFirstLines b (fed before p)) bytes (made.reads.in_order made.tells) in
    record {
      in_order = record { others = first.others; parts = sym (lines_are records each) ∙ first.parts };
      all = λ e. (subst (λ b. AreAllLines b (fed before p)) bytes (made.reads.whole made.tells e)).all ∙ lines_are records each;
      no_long = λ e. not_too_long records (fed before p) each (subst (λ b. AreLinesBeforeLong b (fed before p)) bytes (made.reads.too_long made.tells e));
      no_fault = λ w e. not_risen source.faults (made.calm w).0 (made.reads.fault e);
      no_quiet = λ w none. none_risen (quiets before p) source.waits (no_waits source (made.calm w).1 (plain none)) made.reads.quiet;
    }

-- ---- short lines

abbrev is_short : List ℕ → Type 0
is_short piece = length piece ≤ max_bytes

pieces_nil : pieces [] ≡ [] ∷ []
unfolding pieces
pieces_nil = refl

pieces_lf : (w : List ℕ) → pieces (10 ∷ w) ≡ [] ∷ pieces w
unfolding pieces
pieces_lf w = refl

-- no line of records that are lines is too long
pub short_ended : (records : List (List ℕ)) → All IsLine records → HasShortLines (ended records)
short_ended [] each = rw pieces_nil (All-cons is_short [] [] (omega arith) (All-nil is_short))
short_ended (line ∷ rest) each =
    let first = All-head IsLine line rest each in
    let parts : pieces (line ++ 10 ∷ ended rest) ≡ (line ++ []) ∷ pieces (ended rest) = pieces_front line (10 ∷ ended rest) [] (pieces (ended rest)) first.unbroken (pieces_lf (ended rest)) in
    rw (parts, append-nil line) (All-cons is_short line (pieces (ended rest)) first.short (short_ended rest (All-tail IsLine line rest each)))
