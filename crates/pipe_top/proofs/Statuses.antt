-- Which statuses a run has.
use Rattle.std.proofs.Common.{◌≡◌, ◌≤◌, ℕ, List, [], ◌∷◌, Bool, true, false, Option, Some, None, refl, arith}
use Rattle.std.specs.Prelude.{filter_map, IsTrue}
use Rattle.std.specs.List.{list_any}
use Rattle.pipe_types.specs.declared.message.Outcome.TheVariants.{Successful, Failed}
use Rattle.pipe_types.specs.declared.message.Place.{Place}
use Rattle.pipe_types.specs.declared.message.Place.TheVariants.{Acked, Lost}
use Rattle.pipe_types.specs.declared.topology.Topology.{Topology}
use Rattle.pipe_model.specs.History.{History, accepted}
use Rattle.pipe_model.specs.Flow.{place}
use Rattle.pipe_model.specs.Legal.{happened, is_halt}
use Rattle.pipe_model.specs.Acknowledgements.{is_lossless, numbers_upto}
use Rattle.pipe_laws.proofs.Lossless.{none_lost}
use Rattle.body_laws.specs.Passes.{all_pass}
use Rattle.body_laws.proofs.Places.{none_failed}
use Rattle.body_laws.proofs.Passing.{no_halt}
use Rattle.journal_texts.specs.Report.{places, is_lost, is_failed, is_source_fault, gravest_of, status_of}

-- without a fault of a source the status is at most 3
pub gravest_small : (halted lost failed : Bool) → gravest_of false halted lost failed ≤ 3
gravest_small true lost failed = omega arith
gravest_small false true failed = omega arith
gravest_small false false true = omega arith
gravest_small false false false = omega arith

gravest_few : (fault halted lost failed : Bool) → gravest_of fault halted lost failed ≤ 4
gravest_few true halted lost failed = omega arith
gravest_few false halted lost failed = omega (arith, gravest_small halted lost failed)

pub status_few : (topology : Topology) (before : History) → status_of topology before ≤ 4
status_few topology before =
    gravest_few (happened is_source_fault before) (happened is_halt before) (list_any is_lost (places topology before)) (list_any is_failed (places topology before))

-- ---- nothing lost and nothing failed

-- no place of these numbers passes the test
none_of : (place : ℕ → Option Place) (test : Place → Bool) (numbers : List ℕ) → ((n : ℕ) (p : Place) → place n ≡ Some p → test p ≡ false) → list_any test (filter_map place numbers) ≡ false
none_of place test [] none = refl
none_of place test (n ∷ numbers) none = by_place (place n) refl (none_of place test numbers none)
  where
    by_place : (o : Option Place) → place n ≡ o → list_any test (filter_map place numbers) ≡ false → list_any test (filter_map place (n ∷ numbers)) ≡ false
    by_place None e rest = rw e rest
    by_place (Some p) e rest = rw (e, none n p e) rest

no_loss : (topology : Topology) (before : History) (n : ℕ) (p : Place) → is_lossless topology before ≡ true → place topology before n ≡ Some p → is_lost p ≡ false
no_loss topology before n (Lost loss) lossless e = let x : true ≡ false = rw e at (none_lost topology before n lossless) in cc
no_loss topology before n _ lossless e = refl

no_failure : (topology : Topology) (before : History) (n : ℕ) (p : Place) → all_pass before ≡ true → place topology before n ≡ Some p → is_failed p ≡ false
no_failure topology before n (Acked (Failed why)) pass e = let x : true ≡ false = rw e at (none_failed topology before n pass) in cc
no_failure topology before n (Acked Successful) pass e = refl
no_failure topology before n _ pass e = refl

-- where no source failed, nothing was lost and all passed, the status is 0
pub clean_status : (topology : Topology) (before : History) → happened is_source_fault before ≡ false → IsTrue (is_lossless topology before) → IsTrue (all_pass before) → status_of topology before ≡ 0
clean_status topology before calm lossless pass =
    rw (
      calm,
      no_halt topology before lossless,
      none_of (place topology before) is_lost (numbers_upto (accepted before)) (λ n p. no_loss topology before n p lossless),
      none_of (place topology before) is_failed (numbers_upto (accepted before)) (λ n p. no_failure topology before n p pass),
    ) refl
