-- The places of producers.
use Rattle.std.proofs.Common.{◌≡◌, ℕ, zero, suc, ◌+◌, ◌==◌, ◌&&◌, true, List, [], ◌∷◌, length, take, arith, refl, ap, sym, subst, ◌∙◌}
use Rattle.std.specs.Prelude.{slice_get, Some}
use Rattle.std.proofs.lemmas.Bool.{eqb-true}
use Rattle.pipe_types.specs.Sound.{IsSound, batchers, is_next, is_ordered, is_producer, may_begin, may_follow, may_go_on, producers}
use Rattle.pipe_types.specs.declared.topology.Role.{Role}
use Rattle.pipe_types.specs.declared.topology.Role.TheVariants.{Producer, Processor, Supervisor, Batcher, BatchProcessor}
use Rattle.pipe_types.specs.declared.topology.StageSpec.{StageSpec}
use Rattle.pipe_types.specs.declared.topology.Topology.{Topology}
use Rattle.pipe_laws.proofs.Tests.{and_left, and_right}

-- only a producer stands before a producer, and its place is the one before
next_producer : (a b : Role) (x y : StageSpec) → is_next a b x y ≡ true → is_producer b ≡ true → (is_producer a ≡ true) × (y.index ≡ x.index + 1)
next_producer Producer Producer x y h p = (refl, eqb-true y.index (x.index + 1) h)
next_producer Processor Producer x y h p = cc
next_producer Supervisor Producer x y h p = cc
next_producer Batcher Producer x y h p = cc
next_producer BatchProcessor Producer x y h p = cc
next_producer a Processor x y h p = cc
next_producer a Supervisor x y h p = cc
next_producer a Batcher x y h p = cc
next_producer a BatchProcessor x y h p = cc

follows_next : (s t : StageSpec) → may_follow s t ≡ true → is_next s.role t.role s t ≡ true
follows_next s t h = and_right (t.no.0 == s.no.0 + 1) (is_next s.role t.role s t) h

first_counts : (s : StageSpec) (rest : List StageSpec) → is_producer s.role ≡ true → length (producers (s ∷ rest)) ≡ length (producers rest) + 1
first_counts s rest e = rw e (omega arith)

-- a producer behind a stage stands behind producers alone
record StandsAt (s : StageSpec) (rest : List StageSpec) (n : ℕ) (x : StageSpec) : Type 0 where
  pub first : is_producer s.role ≡ true
  pub index : x.index ≡ s.index + 1 + n
  pub before : length (producers (take n rest)) ≡ n

stands_at : (k : ℕ) (s : StageSpec) (rest : List StageSpec) (n : ℕ) (x : StageSpec) → may_go_on k s rest ≡ true → slice_get rest n ≡ Some x → is_producer x.role ≡ true → StandsAt s rest n x
stands_at k s [] n x h at p = cc
stands_at k s (t ∷ rest) zero x h at p =
    let same : t ≡ x = cc in
    let role : is_producer t.role ≡ true = subst (λ (y : StageSpec). is_producer y.role ≡ true) (sym same) p in
    let next = next_producer s.role t.role s t (follows_next s t (and_left (may_follow s t) (may_go_on k t rest) h)) role in
    record {
      first = next.0;
      index = ap (λ (y : StageSpec). y.index) (sym same) ∙ next.1 ∙ omega arith;
      before = refl;
    }
stands_at k s (t ∷ rest) (suc n) x h at p =
    let later = stands_at k t rest n x (and_right (may_follow s t) (may_go_on k t rest) h) at p in
    let next = next_producer s.role t.role s t (follows_next s t (and_left (may_follow s t) (may_go_on k t rest) h)) later.first in
    let index = later.index in
    let before = later.before in
    let one = first_counts t (take n rest) later.first in
    record {
      first = next.0;
      index = omega (arith, index, next.1);
      before = one ∙ (let more : length (producers (take n rest)) + 1 ≡ suc n = omega (arith, before) in more);
    }

-- the place of a producer is the number of producers before it
pub place_is : (topology : Topology) (n : ℕ) (x : StageSpec) → IsSound topology → slice_get topology.stages n ≡ Some x → is_producer x.role ≡ true → x.index ≡ length (producers (take n topology.stages))
place_is topology n x sound at p = by topology.stages n sound.ordered at
  where
    by : (stages : List StageSpec) (n : ℕ) → is_ordered stages ≡ true → slice_get stages n ≡ Some x → x.index ≡ length (producers (take n stages))
    by [] n h at = cc
    by (s ∷ rest) zero h at =
        let same : s ≡ x = cc in
        let begins : may_begin s ≡ true = and_left (may_begin s) (may_go_on (length (batchers (s ∷ rest))) s rest) h in
        let zero_index = eqb-true s.index 0 (and_right (is_producer s.role) (s.index == 0) (and_right (s.no.0 == 1) (is_producer s.role && s.index == 0) begins)) in
        ap (λ (y : StageSpec). y.index) (sym same) ∙ zero_index
    by (s ∷ rest) (suc n) h at =
        let begins : may_begin s ≡ true = and_left (may_begin s) (may_go_on (length (batchers (s ∷ rest))) s rest) h in
        let zero_index = eqb-true s.index 0 (and_right (is_producer s.role) (s.index == 0) (and_right (s.no.0 == 1) (is_producer s.role && s.index == 0) begins)) in
        let stands = stands_at (length (batchers (s ∷ rest))) s rest n x (and_right (may_begin s) (may_go_on (length (batchers (s ∷ rest))) s rest) h) at p in
        let index = stands.index in
        let before = stands.before in
        let one = first_counts s (take n rest) stands.first in
        let all : x.index ≡ length (producers (take n rest)) + 1 = omega (arith, zero_index, index, before) in
        all ∙ sym one
