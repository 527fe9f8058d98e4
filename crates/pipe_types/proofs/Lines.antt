-- The text of a batch, message by message.
use Rattle.std.proofs.Common.{◌≡◌, ℕ, ◌+◌, ◌<◌, true, false, List, [], ◌∷◌, ◌++◌, length, drop, get_or, refl, ap, sym, ◌∙◌}
use Rattle.std.specs.Prelude.{Bool, if◌then◌else◌}
use Rattle.std.proofs.lemmas.List.{drop_more}
use Rattle.pipe_types.specs.declared.message.Message.{Message}
use Rattle.pipe_types.specs.declared.message.Outcome.{Outcome}
use Rattle.pipe_types.specs.Handlers.{lines_where}

drop_one_more : {X : Type 0} (xs : List X) (i : ℕ) (x : X) → i < length xs → x ≡ get_or xs i x → drop i xs ≡ x ∷ drop (i + 1) xs
drop_one_more xs i x within is = drop_more xs i x within ∙ ap (λ y. y ∷ drop (i + 1) xs) (sym is)

-- one more message
pub lines_next : (test : Outcome → Bool) (messages : List Message) (outcomes : List Outcome) (i : ℕ) (m : Message) (o : Outcome)
    → i < length messages → m ≡ get_or messages i m → i < length outcomes → o ≡ get_or outcomes i o
    → lines_where test (drop i messages) (drop i outcomes) ≡ (if test o then m.payload ++ 10 ∷ [] else []) ++ lines_where test (drop (i + 1) messages) (drop (i + 1) outcomes)
lines_next test messages outcomes i m o within is among was =
    let ms : List Message = drop (i + 1) messages in
    let os : List Outcome = drop (i + 1) outcomes in
    ap (λ xs. lines_where test xs (drop i outcomes)) (drop_one_more messages i m within is)
    ∙ ap (λ ys. lines_where test (m ∷ ms) ys) (drop_one_more outcomes i o among was)
    ∙ by (test o) (lines_where test ms os)
  where
    by : (b : Bool) (rest : List ℕ) → (if b then (m.payload ++ 10 ∷ []) ++ rest else rest) ≡ (if b then m.payload ++ 10 ∷ [] else []) ++ rest
    by true rest = refl
    by false rest = refl
