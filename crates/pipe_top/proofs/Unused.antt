-- What a call comes to that uses nothing of its outside.
use Rattle.std.proofs.Common.{◌≡◌, ℕ, zero, suc, List, [], ◌∷◌, ◌++◌, take, Bool, true, false, Option, Some, None, refl, sym, ◌∙◌, ap, inl, arith}
use Rattle.std.specs.Prelude.{◌⊎◌, IsTrue, slice_get}
use Rattle.std.proofs.lemmas.List.{append-nil}
use Rattle.std.proofs.lemmas.List.Elements.{All-nil, All-cons}
use Rattle.std.proofs.Math.Seq.{take-nil}
use Rattle.pipe_types.specs.declared.topology.Topology.{Topology}
use Rattle.pipe_model.specs.History.{History}
use Rattle.pipe_edges.specs.declared.edges.EdgeKind.{EdgeKind}
use Rattle.pipe_edges.specs.declared.edges.EdgeKind.TheVariants.{File}
use Rattle.stage_bodies.specs.Seen.{BoxSeen}
use Rattle.stage_bodies.specs.Jobs.{Both}
use Rattle.edge_names.specs.Seen.{EdgesSeen}
use Rattle.edge_names.specs.Supplies.{Feeds}
use Rattle.box_stock.specs.Lends.{IsSameBox}
use Rattle.pipe_run.specs.Boxes.{AreSameBoxes}
use Rattle.pipe_top.specs.Cases.{feeds_of, Case, NoCommand, NoTopology, TooFew, Checks, Upgrades, Audits, Rejects, Runs}
use Rattle.pipe_top.specs.Runs.{OutsideSeen, IsUntouched, IsJournalBack, IsNothingBack, IsBrokenOff, IsGivenUp, IsOutsideOf, Asks}
use Rattle.pipe_top.specs.Flows.{ComesBy, ShowsUnfed}
use Rattle.run_verdicts.specs.declared.verdict.Refusal.TheVariants.{Memory}
use Rattle.run_verdicts.specs.declared.verdict.Verdict.{Verdict}
use Rattle.run_verdicts.specs.declared.verdict.Verdict.TheVariants.{Refused}

-- no call was made
pub asks_none : (calls asked : List (EdgeKind × List ℕ)) → Asks calls asked asked
asks_none calls asked = record { count = 0; is = sym (append-nil asked) }

same_box : (o : Option BoxSeen) → Both IsSameBox o o
same_box None = tt
same_box (Some box) = record { kind = refl; law = refl; resets = refl; told = refl; said = λ t. refl; calls = omega arith; bad = omega arith }

same_boxes : (boxes : List BoxSeen) → AreSameBoxes boxes boxes
same_boxes boxes = record { as_many = refl; each = λ k. same_box (slice_get boxes k) }

-- nothing was given back, nor the journal
no_journal_back : (name : List ℕ) (old new : OutsideSeen) → IsUntouched old new → IsJournalBack name old new
no_journal_back name old new u = record { sources = inl u.sources; sinks = u.sinks; clock = u.clock; boxes = u.boxes }

-- where nothing is used there was no run, since memory was wanting or a call by name failed
pub outside_of_none : (memory : Type 0) (says : Bool → Type 0) (calls : List (EdgeKind × List ℕ)) (before : History) (case : Case) (old new : OutsideSeen) → IsUntouched old new
    → ((feeds : Feeds) (live : Option (List ℕ)) (wanted : Topology) → (memory × IsBrokenOff feeds live calls wanted old.edges new.edges) ⊎ IsGivenUp feeds live calls wanted old.edges new.edges)
    → IsOutsideOf memory says calls None before case old new
outside_of_none memory says calls before NoCommand old new u why = u
outside_of_none memory says calls before (NoTopology fault) old new u why = u
outside_of_none memory says calls before (TooFew shortage) old new u why = u
outside_of_none memory says calls before (Checks wanted) old new u why = u
outside_of_none memory says calls before (Upgrades file text wanted) old new u why = u
outside_of_none memory says calls before (Audits name summary wanted) old new u why = no_journal_back name old new u
outside_of_none memory says calls before (Rejects name fault wanted) old new u why = no_journal_back name old new u
outside_of_none memory says calls before (Runs shows live feeding wanted) old new u why = record {
  edges = why (feeds_of feeding wanted) live wanted;
  clock = u.clock;
  boxes = rw u.boxes (same_boxes old.boxes);
}

-- no call was made, and nothing was given back
pub off_unasked : (calls : List (EdgeKind × List ℕ)) (old new : EdgesSeen) → new.asked ≡ old.asked → IsNothingBack old new → (feeds : Feeds) (live : Option (List ℕ)) (wanted : Topology) → IsBrokenOff feeds live calls wanted old new
off_unasked calls old new asked none feeds live wanted = record {
  front = [];
  rest = calls;
  parts = refl;
  asked = λ t. asked ∙ sym (append-nil old.asked);
  back = inl (All-nil (λ (call : EdgeKind × List ℕ). call.0 ≡ File), none);
}

-- the first call was made or not, and nothing was given back
pub off_file : (name : List ℕ) (calls : List (EdgeKind × List ℕ)) (old new : EdgesSeen) → (IsTrue old.told → Asks ((File, name) ∷ []) old.asked new.asked) → IsNothingBack old new
    → (feeds : Feeds) (live : Option (List ℕ)) (wanted : Topology) → IsBrokenOff feeds live ((File, name) ∷ calls) wanted old new
off_file name calls old new asks none feeds live wanted = by_telling old.told refl
  where
    unmade : (IsTrue old.told → new.asked ≡ old.asked ++ []) → IsBrokenOff feeds live ((File, name) ∷ calls) wanted old new
    unmade asked = record { front = []; rest = (File, name) ∷ calls; parts = refl; asked = asked; back = inl (All-nil (λ (call : EdgeKind × List ℕ). call.0 ≡ File), none) }

    by_count : (count : ℕ) → new.asked ≡ old.asked ++ take count ((File, name) ∷ []) → IsBrokenOff feeds live ((File, name) ∷ calls) wanted old new
    by_count zero is = unmade (λ t. is)
    by_count (suc n) is = record {
      front = (File, name) ∷ [];
      rest = calls;
      parts = refl;
      asked = λ t. is ∙ ap (λ l. old.asked ++ (File, name) ∷ l) (take-nil n);
      back = inl (All-cons (λ (call : EdgeKind × List ℕ). call.0 ≡ File) (File, name) [] refl (All-nil (λ (call : EdgeKind × List ℕ). call.0 ≡ File)), none);
    }

    by_telling : (told : Bool) → old.told ≡ told → IsBrokenOff feeds live ((File, name) ∷ calls) wanted old new
    by_telling true is = by_count (asks is).count (asks is).is
    by_telling false is = unmade (λ t. cc)

-- memory was wanting before anything was opened
pub wanting : (old new : OutsideSeen) (case : Case) (calls : List (EdgeKind × List ℕ)) (topology : Option Topology) (before : History) (verdict : Verdict)
    → verdict ≡ Refused Memory → (topology ≡ None) × (before ≡ []) → IsUntouched old new → (IsTrue old.edges.told → Asks calls old.edges.asked new.edges.asked) → ((feeds : Feeds) (live : Option (List ℕ)) (wanted : Topology) → IsBrokenOff feeds live calls wanted old.edges new.edges)
    → new.edges.told ≡ old.edges.told → ComesBy old new case calls topology before verdict
wanting old new case calls topology before verdict is none untouched asks off telling =
    rw (is, none.0) (record {
      outcome = inl none.1;
      outside = outside_of_none (Refused Memory ≡ Refused Memory) (ShowsUnfed (Refused Memory)) calls before case old new untouched (λ feeds live wanted. inl (refl, off feeds live wanted));
      asked_by = asks;
      audited = λ a b. absurd (b refl);
      same_telling = telling;
    })
