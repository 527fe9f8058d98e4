-- Fronts of texts that are written one after another.
use Rattle.std.proofs.Common.{◌≡◌, ℕ, zero, suc, ◌+◌, List, [], ◌∷◌, ◌++◌, length, take, refl, sym, ◌∙◌, ap, arith}
use Rattle.std.proofs.lemmas.List.{append-nil, append_assoc}
use Rattle.std.proofs.Math.Seq.{take-nil}
use Rattle.program_words.specs.Refusals.{memory_line}
use Rattle.run_verdicts.specs.Verdicts.{Adds, AddsPrefix, refusal_text, refusal_status}
use Rattle.run_verdicts.specs.declared.verdict.Refusal.{Refusal}
use Rattle.run_verdicts.specs.declared.verdict.Refusal.TheVariants.{Usage, Topology, Stock, Edge, Audit, Memory}
use Rattle.run_verdicts.specs.declared.audits.AuditFault.TheVariants.{Line, Large, Wait, Source}

-- a front of the first text is a front of both
front_of : (count : ℕ) (first second : List ℕ) → (n : ℕ) × (take count first ≡ take n (first ++ second))
front_of count [] second = (0, take-nil count)
front_of zero (b ∷ first) second = (0, refl)
front_of (suc count) (b ∷ first) second =
    let r = front_of count first second in
    (suc r.0, ap (λ l. b ∷ l) r.1)

past : (first second : List ℕ) (count : ℕ) → first ++ take count second ≡ take (length first + count) (first ++ second)
past [] second count =
    let same : count ≡ 0 + count = omega arith in
    ap (λ n. take n second) same
past (b ∷ first) second count =
    let same : suc (length first + count) ≡ suc (length first) + count = omega arith in
    ap (λ l. b ∷ l) (past first second count) ∙ ap (λ n. take n (b ∷ (first ++ second))) same

pub front : (held held' first second : List ℕ) → AddsPrefix held held' first → AddsPrefix held held' (first ++ second)
front held held' first second begun =
    let r = front_of begun.count first second in
    record {
      count = r.0;
      is = begun.is ∙ ap (λ l. held ++ l) r.1;
    }

pub after_first : (held middle held' first second : List ℕ) → Adds held middle first → AddsPrefix middle held' second → AddsPrefix held held' (first ++ second)
after_first held middle held' first second adds begun = record {
  count = length first + begun.count;
  is = begun.is ∙ ap (λ l. l ++ take begun.count second) adds ∙ append_assoc held first (take begun.count second) ∙ ap (λ l. held ++ l) (past first second begun.count);
}

-- nothing is a front of every text
pub nothing : (held text : List ℕ) → AddsPrefix held held text
nothing held text = record { count = 0; is = sym (append-nil held) }

-- the line of a refusal with the status 9 is that of wanting memory
pub memory_front : (refusal : Refusal) (held held' : List ℕ) → refusal_status refusal ≡ 9 → AddsPrefix held held' (refusal_text refusal) → AddsPrefix held held' memory_line
memory_front Memory held held' nine begun = begun
memory_front Usage held held' nine begun = absurd (omega (arith, nine))
memory_front (Topology fault) held held' nine begun = absurd (omega (arith, nine))
memory_front (Stock shortage) held held' nine begun = absurd (omega (arith, nine))
memory_front (Edge name) held held' nine begun = absurd (omega (arith, nine))
memory_front (Audit (Line line cause)) held held' nine begun = absurd (omega (arith, nine))
memory_front (Audit Large) held held' nine begun = absurd (omega (arith, nine))
memory_front (Audit Wait) held held' nine begun = absurd (omega (arith, nine))
memory_front (Audit Source) held held' nine begun = absurd (omega (arith, nine))
