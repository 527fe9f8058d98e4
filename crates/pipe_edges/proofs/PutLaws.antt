-- Laws of writing in parts.
use Rattle.std.proofs.Common.{◌≡◌, Bool, ℕ, ◌+◌, ◌-◌, ◌≤◌, List, ◌++◌, length, take, drop, arith, sym, ◌∙◌}
use Rattle.std.proofs.lemmas.List.{take-take, drop-take, take-append-drop, append_assoc, take_rest}
use Rattle.std.specs.Prelude.{IsTrue}

pub taken_is : (bytes : List ℕ) (i n : ℕ) → take (i + n) bytes ≡ take i bytes ++ take n (drop i bytes)
taken_is bytes i n =
    let l : i ≤ i + n = omega arith in
    sym (rw (take-take i (i + n) bytes l, drop-take i n bytes) at (take-append-drop i (take (i + n) bytes)))

-- one write of a put
pub put_step : (told told' : Bool) (start held held' all : List ℕ) (done n : ℕ) → told' ≡ told
    → (IsTrue told → held ≡ start ++ take done all)
    → (IsTrue told' → held' ≡ held ++ take n (take (length all - done) (drop done all)))
    → IsTrue told → held' ≡ start ++ take (done + n) all
put_step told told' start held held' all done n same so_far write t =
    let w : held' ≡ held ++ take n (take (length all - done) (drop done all)) = write (rw same t) in
    let w' : held' ≡ held ++ take n (drop done all) = rw (take_rest all done) at w in
    let h : held ≡ start ++ take done all = so_far t in
    rw h at w' ∙ rw (taken_is all done n) (append_assoc start (take done all) (take n (drop done all)))
