-- Rows: a child, and the end of its run.
use Rattle.std.proofs.Common.{◌≡◌, refl}
use Rattle.std.specs.Prelude.{true, List, [], ◌∷◌, ◌++◌, codes, take}
use Rattle.pipe_types.specs.declared.topology.Rule.TheVariants.{Crash as CrashRule}
use Rattle.pipe_types.specs.declared.topology.ChildMode.TheVariants.{Temporary as TemporaryChild}
use Rattle.pipe_types.specs.declared.message.Reply.TheVariants.{Pass, Failed as FailedReply, Crashed}
use Rattle.pipe_types.specs.declared.message.Why.TheVariants.{Kill as ByKill}
use Rattle.pipe_types.specs.declared.step.Step.{Step}
use Rattle.pipe_types.specs.declared.step.Step.TheVariants.{Ask, Fetch, Accept, Dispatch, Take, Child, ChildEnd, Kill, Tick}
use Rattle.pipe_types.specs.Numbers.{stage, message_no}
use Rattle.model_checks.proofs.Base.{may_come_after, is_refused_after, producer, with_stages, one_each, sub, msg, supervisor, supervised, none_may_come_after}

-- three messages for two slots
abbrev sent_two : List Step
sent_two = Ask (sub 2 1 1) 2 ∷ Fetch (stage 1) 2 ∷ Accept (stage 1) (codes "a" ∷ codes "!" ∷ []) ∷ Dispatch (stage 1) ∷ []

abbrev first_runs : List Step
first_runs = sent_two ++ Child (stage 2) (message_no 1) 0 ∷ []

-- Child

-- the first of the inbox in any free slot
child_in_the_first : may_come_after supervised sent_two (Child (stage 2) (message_no 1) 0) ≡ true
child_in_the_first = refl

child_in_the_second : may_come_after supervised sent_two (Child (stage 2) (message_no 1) 1) ≡ true
child_in_the_second = refl

-- no slot at the maximum or above
child_in_a_third : is_refused_after supervised sent_two (Child (stage 2) (message_no 1) 2) ≡ true
child_in_a_third = refl

-- not the second of the inbox
child_of_the_second : is_refused_after supervised sent_two (Child (stage 2) (message_no 2) 0) ≡ true
child_of_the_second = refl

child_of_nothing : is_refused_after supervised (take 1 sent_two) (Child (stage 2) (message_no 0) 0) ≡ true
child_of_nothing = refl

-- not in a slot that is out
child_in_a_taken_slot : is_refused_after supervised first_runs (Child (stage 2) (message_no 2) 0) ≡ true
child_in_a_taken_slot = refl

child_beside_it : may_come_after supervised first_runs (Child (stage 2) (message_no 2) 1) ≡ true
child_beside_it = refl

-- in a slot whose message was answered
child_after_another : may_come_after supervised (first_runs ++ ChildEnd (stage 2) 0 (Pass (msg 1 (codes "a"))) ∷ [])
    (Child (stage 2) (message_no 2) 0) ≡ true
child_after_another = refl

-- a message that crashed runs again in its own slot, and no other has that slot meanwhile
abbrev crashed_once : List Step
crashed_once = sent_two ++ Child (stage 2) (message_no 1) 0 ∷ ChildEnd (stage 2) 0 (Pass (msg 1 (codes "a")))
    ∷ Child (stage 2) (message_no 2) 0 ∷ ChildEnd (stage 2) 0 Crashed ∷ []

child_again : may_come_after supervised crashed_once (Child (stage 2) (message_no 2) 0) ≡ true
child_again = refl

child_again_elsewhere : is_refused_after supervised crashed_once (Child (stage 2) (message_no 2) 1) ≡ true
child_again_elsewhere = refl

child_again_while_out : is_refused_after supervised (crashed_once ++ Child (stage 2) (message_no 2) 0 ∷ [])
    (Child (stage 2) (message_no 2) 0) ≡ true
child_again_while_out = refl

abbrev crashed_beside : List Step
crashed_beside =
    Ask (sub 2 1 1) 2 ∷ Fetch (stage 1) 2 ∷ Accept (stage 1) (codes "!" ∷ codes "a" ∷ []) ∷ Dispatch (stage 1)
    ∷ Child (stage 2) (message_no 1) 0 ∷ ChildEnd (stage 2) 0 Crashed ∷ []

child_in_a_held_slot : is_refused_after supervised crashed_beside (Child (stage 2) (message_no 2) 0) ≡ true
child_in_a_held_slot = refl

child_in_the_free_slot : may_come_after supervised crashed_beside (Child (stage 2) (message_no 2) 1) ≡ true
child_in_the_free_slot = refl

-- a temporary child's slot is free after its crash
child_after_a_loss : may_come_after (with_stages (producer 1 (codes "p") 0
    ∷ record (supervisor 2 (CrashRule (codes "!") ∷ [])) { child = TemporaryChild } ∷ [])) crashed_beside (Child (stage 2) (message_no 2) 0)
    ≡ true
child_after_a_loss = refl

-- only a supervisor, which lives
child_of_a_processor : is_refused_after one_each (Ask (sub 2 1 1) 10 ∷ Fetch (stage 1) 10 ∷ Accept (stage 1) (codes "x" ∷ [])
    ∷ Dispatch (stage 1) ∷ []) (Child (stage 2) (message_no 1) 0) ≡ true
child_of_a_processor = refl

child_while_dead : is_refused_after supervised (sent_two ++ Kill (stage 2) ByKill ∷ []) (Child (stage 2) (message_no 1) 0) ≡ true
child_while_dead = refl

child_again_while_dead : is_refused_after supervised (crashed_once ++ Kill (stage 2) ByKill ∷ []) (Child (stage 2) (message_no 2) 0) ≡ true
child_again_while_dead = refl

-- ChildEnd

-- the handler's reply
end_by_pass : may_come_after supervised first_runs (ChildEnd (stage 2) 0 (Pass (msg 1 (codes "a")))) ≡ true
end_by_pass = refl

end_otherwise : none_may_come_after supervised first_runs (
    ChildEnd (stage 2) 0 (FailedReply (codes "no"))
    ∷ ChildEnd (stage 2) 0 Crashed
    ∷ ChildEnd (stage 2) 0 (Pass (msg 2 (codes "!")))
    ∷ []) ≡ true
end_otherwise = refl

abbrev both_run : List Step
both_run = first_runs ++ Child (stage 2) (message_no 2) 1 ∷ []

end_of_the_crashing : may_come_after supervised both_run (ChildEnd (stage 2) 1 Crashed) ≡ true
end_of_the_crashing = refl

end_of_the_crashing_by_pass : is_refused_after supervised both_run (ChildEnd (stage 2) 1 (Pass (msg 2 (codes "!")))) ≡ true
end_of_the_crashing_by_pass = refl

-- only while it is out
end_of_a_free_slot : is_refused_after supervised first_runs (ChildEnd (stage 2) 1 (Pass (msg 1 (codes "a")))) ≡ true
end_of_a_free_slot = refl

end_twice : is_refused_after supervised (first_runs ++ ChildEnd (stage 2) 0 (Pass (msg 1 (codes "a"))) ∷ [])
    (ChildEnd (stage 2) 0 (Pass (msg 1 (codes "a")))) ≡ true
end_twice = refl

end_between_runs : is_refused_after supervised crashed_once (ChildEnd (stage 2) 0 Crashed) ≡ true
end_between_runs = refl

-- not from a killed incarnation
end_while_dead : is_refused_after supervised (first_runs ++ Kill (stage 2) ByKill ∷ []) (ChildEnd (stage 2) 0 (Pass (msg 1 (codes "a"))))
    ≡ true
end_while_dead = refl

-- not by a processor
end_by_a_processor : is_refused_after one_each (Ask (sub 2 1 1) 10 ∷ Fetch (stage 1) 10 ∷ Accept (stage 1) (codes "x" ∷ [])
    ∷ Dispatch (stage 1) ∷ Take (stage 2) (sub 2 1 1) 1 ∷ []) (ChildEnd (stage 2) 0 (Pass (msg 1 (codes "x")))) ≡ true
end_by_a_processor = refl

-- a crash of a child owes no kill
end_owes_nothing : may_come_after supervised crashed_once (Tick 0) ≡ true
end_owes_nothing = refl
