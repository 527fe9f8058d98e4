-- An ask, a fetch or a gather that is allowed is the one that its call appends.
use Rattle.std.proofs.Common.{◌≡◌, ℕ, true, refl, ap}
use Rattle.std.specs.Prelude.{◌==◌, not, nat_le, nat_lt}
use Rattle.std.proofs.lemmas.Bool.{eqb-true}
use Rattle.pipe_types.specs.declared.numbers.StageNo.{StageNo}
use Rattle.pipe_types.specs.declared.numbers.SubNo.{SubNo}
use Rattle.pipe_types.specs.declared.numbers.MsgNo.{MsgNo}
use Rattle.pipe_types.specs.declared.topology.Topology.{Topology}
use Rattle.pipe_types.specs.declared.step.Step.TheVariants.{Ask, Fetch, Gather}
use Rattle.pipe_types.specs.Numbers.{message_no, post}
use Rattle.pipe_model.specs.History.{History, accepted_bytes}
use Rattle.pipe_model.specs.Posts.{is_out}
use Rattle.pipe_model.specs.Lives.{is_live}
use Rattle.pipe_model.specs.Ledger.{due}
use Rattle.pipe_model.specs.Flow.{inbox}
use Rattle.pipe_model.specs.Legal.{allows, first_unit, bound, has_role, is_producer_role, has_ended, rests, happened, is_drain}
use Rattle.pipe_laws.proofs.Tests.{and_right}
use Rattle.pipe_laws.proofs.Allowed.{unowed, gather_facts}

-- an ask that is allowed is of the size that is due
pub ask_due : (topology : Topology) (before : History) (u : SubNo) (n : ℕ) → allows topology before (Ask u n) ≡ true → n ≡ due topology before u
ask_due topology before u n h = eqb-true n (due topology before u) (and_right (nat_le 1 n) (n == due topology before u) (unowed topology before (Ask u n) (λ t. refl) (λ t. refl) h))

-- a fetch that is allowed may bring as much as the bound
pub fetch_bound : (topology : Topology) (before : History) (s : StageNo) (n : ℕ) → allows topology before (Fetch s n) ≡ true → n ≡ bound topology before s
fetch_bound topology before s n h =
    let one = and_right (is_live topology before s) _ (unowed topology before (Fetch s n) (λ t. refl) (λ t. refl) h) in
    let two = and_right (has_role topology s is_producer_role) _ one in
    let three = and_right (not (has_ended before s)) _ two in
    let four = and_right (not (is_out before (post s 0))) _ three in
    let five = and_right (not (rests before s)) _ four in
    let six = and_right (not (happened is_drain before)) _ five in
    let seven = and_right (nat_lt (accepted_bytes before) topology.byte_limit) _ six in
    eqb-true n (bound topology before s) (and_right (nat_le 1 n) _ seven)

-- a gather that is allowed is of the first message of the inbox
pub gather_first : (topology : Topology) (before : History) (s : StageNo) (m : MsgNo) → allows topology before (Gather s m) ≡ true → m ≡ message_no (first_unit (inbox topology before s))
gather_first topology before s m h = ap message_no (gather_facts topology before s m h).first
