-- When a message was settled.
use Rattle.std.proofs.Common.{◌≡◌, ℕ, true, false, ◌∷◌, length, ap, ◌∙◌}
use Rattle.std.specs.Prelude.{if◌then◌else◌}
use Rattle.pipe_types.specs.declared.topology.Topology.{Topology}
use Rattle.pipe_types.specs.declared.step.Step.{Step}
use Rattle.pipe_model.specs.History.{History}
use Rattle.pipe_model.specs.Flow.{place}
use Rattle.pipe_model.specs.Moves.{is_final}
use Rattle.pipe_model.specs.Places.{settled_at}

pub settled_before : (topology : Topology) (before : History) (step : Step) (n : ℕ) → is_final (place topology before n) ≡ true
    → settled_at topology (step ∷ before) n ≡ settled_at topology before n
settled_before topology before step n final =
    ap (λ b. if b then settled_at topology before n else (if is_final (place topology (step ∷ before) n) then length before else 0)) final

pub settled_now : (topology : Topology) (before : History) (step : Step) (n : ℕ) → is_final (place topology before n) ≡ false → is_final (place topology (step ∷ before) n) ≡ true
    → settled_at topology (step ∷ before) n ≡ length before
settled_now topology before step n not_yet final =
    ap (λ b. if b then settled_at topology before n else (if is_final (place topology (step ∷ before) n) then length before else 0)) not_yet
    ∙ ap (λ b. if b then length before else 0) final

pub not_settled : (topology : Topology) (before : History) (step : Step) (n : ℕ) → is_final (place topology before n) ≡ false → is_final (place topology (step ∷ before) n) ≡ false
    → settled_at topology (step ∷ before) n ≡ 0
not_settled topology before step n not_yet not_now =
    ap (λ b. if b then settled_at topology before n else (if is_final (place topology (step ∷ before) n) then length before else 0)) not_yet
    ∙ ap (λ b. if b then length before else 0) not_now
