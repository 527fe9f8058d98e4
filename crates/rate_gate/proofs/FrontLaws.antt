-- Laws of the bytes of a source behind a gate.
use Rattle.std.proofs.Common.{◌≡◌, ℕ, ◌+◌, ◌-◌, List, [], ◌∷◌, ◌++◌, length, take, arith, refl, ap, sym, ◌∙◌}
use Rattle.std.proofs.lemmas.List.{append_assoc, append-nil, take_at, length-append}
use Rattle.pipe_edges.specs.Reads.{ReadsBytes}
use Rattle.pipe_edges.specs.declared.source.ReadEnd.{ReadEnd}
use Rattle.pipe_edges.specs.declared.source.ReadEnd.TheVariants.{Got, End, Failed, Empty}
use Rattle.rate_gate.specs.Front.{FrontSeen, taken_before, IsGiven, IsStopped}

-- ---- what was read and what is held

front_is : (taken front held : List ℕ) → taken ≡ front ++ held → taken_before held taken ≡ front
front_is taken front held e =
    let len : length taken ≡ length front + length held = ap length e ∙ length-append front held in
    ap (take (length taken - length held)) e ∙ take_at front held (length taken - length held) (omega (arith, len))

holds_last : (taken front held : List ℕ) → taken ≡ front ++ held → taken ≡ taken_before held taken ++ held
holds_last taken front held e = e ∙ ap (λ x. x ++ held) (sym (front_is taken front held e))

pub no_bytes : (bytes : List ℕ) → length bytes ≡ 0 → bytes ≡ []
no_bytes [] e = refl
no_bytes (b ∷ bs) e = absurd (omega (arith, e))

-- ---- a read ahead

pub filled_last : (taken taken' held' : List ℕ) → taken' ≡ taken ++ held' → taken' ≡ taken_before held' taken' ++ held'
filled_last taken taken' held' e = holds_last taken' taken held' e

pub filled_parts : (held taken left held' taken' left' : List ℕ) → held ≡ [] → (left ≡ held' ++ left') × (taken' ≡ taken ++ held')
    → (taken' ≡ taken_before held' taken' ++ held') × ((taken_before held' taken' ≡ taken_before held taken) × (held ++ left ≡ held' ++ left'))
filled_parts held taken left held' taken' left' none filled =
    rw none (
      holds_last taken' taken held' filled.1,
      (front_is taken' taken held' filled.1 ∙ sym (front_is taken taken [] (sym (append-nil taken))), filled.0),
    )

-- ---- what is given

behind : (taken front part rest held : List ℕ) → taken ≡ front ++ held → held ≡ part ++ rest → taken ≡ (front ++ part) ++ rest
behind taken front part rest held e f = e ∙ ap (λ x. front ++ x) f ∙ sym (append_assoc front part rest)

stopped_held : (a b : FrontSeen) → IsStopped a b → b.held ≡ a.held
stopped_held a b stopped = ap (λ (f : FrontSeen). f.held) stopped.same

pub given_last : (room : ℕ) (a b : FrontSeen) (piece : List ℕ) (end : ReadEnd) (taken : List ℕ) → IsGiven room a b piece end → taken ≡ taken_before a.held taken ++ a.held → taken ≡ taken_before b.held taken ++ b.held
given_last room a b piece (Got n) taken given last =
    let front = taken_before a.held taken in
    holds_last taken (front ++ take n piece) b.held (behind taken front (take n piece) b.held a.held last given.parts)
given_last room a b piece Empty taken given last = rw (stopped_held a b given) last
given_last room a b piece End taken given last = absurd given
given_last room a b piece Failed taken given last = absurd given

pub given_bytes : (room : ℕ) (a b : FrontSeen) (piece : List ℕ) (end : ReadEnd) (taken left taken0 left0 : List ℕ) → IsGiven room a b piece end → taken ≡ taken_before a.held taken ++ a.held
    → taken_before a.held taken ≡ taken0 → left0 ≡ a.held ++ left → ReadsBytes taken0 left0 piece (taken_before b.held taken) (b.held ++ left) end
given_bytes room a b piece (Got n) taken left taken0 left0 given last same_taken same_left =
    let front = taken_before a.held taken in (
      same_left ∙ ap (λ x. x ++ left) given.parts ∙ append_assoc (take n piece) b.held left,
      front_is taken (front ++ take n piece) b.held (behind taken front (take n piece) b.held a.held last given.parts) ∙ ap (λ x. x ++ take n piece) same_taken,
    )
given_bytes room a b piece Empty taken left taken0 left0 given last same_taken same_left =
    (ap (λ x. x ++ left) (stopped_held a b given) ∙ sym same_left, ap (λ x. taken_before x taken) (stopped_held a b given) ∙ same_taken)
given_bytes room a b piece End taken left taken0 left0 given last same_taken same_left = absurd given
given_bytes room a b piece Failed taken left taken0 left0 given last same_taken same_left = absurd given
