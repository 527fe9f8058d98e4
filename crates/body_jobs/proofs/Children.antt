-- A child's message, from a count of 0.
use Rattle.std.proofs.Common.{◌≡◌, ◌≤◌, ℕ, Bool, true, false, ◌&&◌, List, ◌∙◌, subst, arith, inl, inr, IsTrue}
use Rattle.pipe_types.specs.declared.message.Message.{Message}
use Rattle.pipe_types.specs.declared.message.Reply.{Reply}
use Rattle.pipe_types.specs.declared.topology.Kind.TheVariants.{Own}
use Rattle.stage_callback.specs.Laws.{RoseExactly}
use Rattle.stage_callback.proofs.Resets.{counted_on}
use Rattle.stage_job.specs.Chunks.{RoseBy}
use Rattle.stage_job.specs.Lawful.{AreLawful}
use Rattle.stage_job.proofs.CallCounts.{rose_before}
use Rattle.stage_bodies.specs.Seen.{BoxSeen}
use Rattle.stage_bodies.specs.Jobs.{KeepsBox, Replies, reset}

-- a test of one alone
pub alone : (b answer : Bool) → (b && true) ≡ answer → b ≡ answer
alone true answer is = is
alone false answer is = is

-- the same callback stays the same
pub kept_on : {old middle new : BoxSeen} → KeepsBox old middle → KeepsBox middle new → KeepsBox old new
kept_on first then = record {
  kind = then.kind ∙ first.kind;
  spec = then.spec ∙ first.spec;
  law = then.law ∙ first.law;
  told = then.told ∙ first.told;
  calls = omega (arith, first.calls, then.calls);
  bad = omega (arith, first.bad, then.bad);
  no_calls = λ not_own. then.no_calls (rw first.kind not_own) ∙ first.no_calls not_own;
  no_bad = λ not_own. then.no_bad (rw first.kind not_own) ∙ first.no_bad not_own;
}

rose_by_before : (times before middle now : ℕ) → before ≤ middle → RoseBy times middle now → RoseBy times before now
rose_by_before times before middle now low (inl above) = inl (omega arith)
rose_by_before times before middle now low (inr full) = inr full

-- replies after a reset
pub after_reset : {messages : List Message} {replies : List Reply} {old middle new : BoxSeen}
    → KeepsBox old middle → middle.count ≡ 0 → (IsTrue old.told → middle.said ≡ old.said) → (old.kind ≡ Own → RoseExactly 1 old.resets middle.resets) → Replies 0 messages replies middle new
    → Replies 1 messages replies (reset old) new
after_reset {messages = messages} {replies = replies} {old = old} {middle = middle} {new = new} kept zero same resets r =
    let keeps = kept_on kept r.kept in
    record {
      kept = record {
        kind = keeps.kind;
        spec = keeps.spec;
        law = keeps.law;
        told = keeps.told;
        calls = keeps.calls;
        bad = keeps.bad;
        no_calls = keeps.no_calls;
        no_bad = keeps.no_bad;
      };
      by_rules = λ not_own. rw (kept.spec, zero) at (r.by_rules (rw kept.kind not_own));
      count = λ not_own below. rw zero at (r.count (rw kept.kind not_own) (rw zero below));
      calm = λ not_own calm. r.calm (rw kept.kind not_own) (rw kept.spec calm);
      shape = λ own all. rw kept.spec at (r.shape (kept.kind ∙ own) (rw kept.spec all));
      lawful = subst (λ law. AreLawful law messages replies) kept.law r.lawful;
      resets = λ own. counted_on 1 0 old.resets middle.resets new.resets (resets own) (r.resets (kept.kind ∙ own));
      calls = λ own. rose_by_before _ old.calls middle.calls new.calls kept.calls (r.calls (kept.kind ∙ own));
      bad = λ own some. rose_before old.bad middle.bad new.bad kept.bad (r.bad (kept.kind ∙ own) some);
      by_answers = λ told. rw (same told) at (r.by_answers (rw kept.told told));
    }
