-- Steps of a stream to a sink of bytes.
use Rattle.std.proofs.Common.{◌≡◌, ◌≤◌, ℕ, Bool, true, false, not, List, [], ◌++◌, length, take, take_all, refl, sym, ◌∙◌, ap, arith}
use Rattle.std.specs.Prelude.{IsTrue, if◌then◌else◌, Result, Ok, Err}
use Rattle.std.specs.Result.{is_ok, is_err}
use Rattle.std.proofs.lemmas.List.{append-nil}
use Rattle.pipe_types.specs.Counts.{Rose}
use Rattle.journal_texts.specs.Streams.{StreamSeen, Begun, Streams, IsStreamed}
use Rattle.journal_texts.specs.StreamLaws.{streams_both}

abbrev seen : Bool → List ℕ → ℕ → List ℕ → Bool → StreamSeen
seen told held faults piece failed = record { told = told; held = held; faults = faults; piece = piece; failed = failed }

-- all bytes were written, or a front of them before a fault; nothing was left in the piece
pub written : (told told' : Bool) (held held' : List ℕ) (faults faults' : ℕ) (piece text : List ℕ) (before whole : Bool) → before ≡ false → piece ≡ [] → told' ≡ told → faults ≤ faults'
    → (whole ≡ true → IsTrue told → held' ≡ held ++ text)
    → (whole ≡ false → Rose faults faults' × (IsTrue told → Begun held held' text))
    → Streams (seen told held faults piece before) (seen told' held' faults' piece (not whole)) text
written told told' held held' faults faults' piece text true whole start empty same stay wrote begun = cc
written told told' held held' faults faults' piece text false true start empty same stay wrote begun = record {
  same_telling = same;
  faults_stay = stay;
  moved = λ e. (refl, λ t. record { written = text; held = wrote refl t; rest = rw empty (append-nil text) });
  broke = λ e f. cc;
  broken = λ e. cc;
}
written told told' held held' faults faults' piece text false false start empty same stay wrote begun = record {
  same_telling = same;
  faults_stay = stay;
  moved = λ e. cc;
  broke = λ e f. let b = begun refl in (b.0, λ t. rw empty (b.1 t));
  broken = λ e. cc;
}

-- the text stands in the piece
pub added : (told : Bool) (held : List ℕ) (faults : ℕ) (piece piece' text : List ℕ) (failed : Bool) → piece' ≡ piece ++ text
    → Streams (seen told held faults piece failed) (seen told held faults piece' failed) text
added told held faults piece piece' text true is = record {
  same_telling = refl;
  faults_stay = omega arith;
  moved = λ e. cc;
  broke = λ e f. cc;
  broken = λ e. (refl, refl, λ t. refl);
}
added told held faults piece piece' text false is = record {
  same_telling = refl;
  faults_stay = omega arith;
  moved = λ e. (refl, λ t. record { written = []; held = sym (append-nil held); rest = is });
  broke = λ e f. cc;
  broken = λ e. cc;
}

not_false : (b : Bool) → not b ≡ false → b ≡ true
not_false true e = refl
not_false false e = cc

not_true : (b : Bool) → not b ≡ true → b ≡ false
not_true true e = cc
not_true false e = refl

pub streamed : (old mid new : StreamSeen) (text : List ℕ) → Streams old mid text → Streams mid new [] → old.piece ≡ [] → old.failed ≡ false → (new.failed ≡ false → new.piece ≡ [])
    → IsStreamed old new text (not new.failed)
streamed old mid new text one two empty fresh last = record {
  told = both.same_telling;
  stay = both.faults_stay;
  fault = λ e. (both.broke fresh (not_false new.failed e)).0;
  all = λ e t. held_whole (not_true new.failed e) t;
  begun = λ t. by new.failed refl t;
}
  where
    both : Streams old new (text ++ [])
    both = streams_both old mid new text [] one two

    held_whole : new.failed ≡ false → IsTrue old.told → new.held ≡ old.held ++ text
    held_whole e t =
        let m = (both.moved e).1 t in
        let piece = last e in
        m.held ∙ ap (λ l. old.held ++ l) (sym (append-nil m.written) ∙ ap (λ l. m.written ++ l) (sym piece) ∙ m.rest ∙ ap (λ l. l ++ (text ++ [])) empty ∙ append-nil text)

    by : (b : Bool) → new.failed ≡ b → IsTrue old.told → Begun old.held new.held text
    by true e t =
        let b = (both.broke fresh e).1 t in
        record { count = b.count; is = b.is ∙ ap (λ l. old.held ++ take b.count l) (ap (λ l. l ++ (text ++ [])) empty ∙ append-nil text) }
    by false e t =
        record { count = length text; is = held_whole e t ∙ ap (λ l. old.held ++ l) (sym (take_all (length text) text (omega arith))) }

-- where there was memory the text stands behind the piece, and else the piece is as it was
pub extended : {A E : Type 0} (result : Result A E) (is_wanting : Bool) (piece text items : List ℕ) → items ≡ (if is_ok result then piece ++ text else piece) → is_wanting ≡ is_err result → is_wanting ≡ false
    → items ≡ piece ++ text
extended (Ok x) is_wanting piece text items is flag none = is
extended (Err e) true piece text items is flag none = cc
extended (Err e) false piece text items is flag none = cc

pub unextended : {A E : Type 0} (result : Result A E) (is_wanting : Bool) (piece text items : List ℕ) → items ≡ (if is_ok result then piece ++ text else piece) → is_wanting ≡ is_err result → is_wanting ≡ true
    → items ≡ piece
unextended (Err e) is_wanting piece text items is flag some = is
unextended (Ok x) true piece text items is flag some = cc
unextended (Ok x) false piece text items is flag some = cc

pub same_piece : (told : Bool) (held : List ℕ) (faults : ℕ) (piece items : List ℕ) (failed : Bool) (new : StreamSeen) (text : List ℕ) → items ≡ piece → Streams (seen told held faults items failed) new text
    → Streams (seen told held faults piece failed) new text
same_piece told held faults piece items failed new text is s = rw is at s
