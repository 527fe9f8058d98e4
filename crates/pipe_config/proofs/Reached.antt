-- Every batcher is reached.
use Rattle.std.proofs.Common.{◌≡◌, ℕ, suc, ◌+◌, Bool, true, false, not, ◌&&◌, ◌||◌, ◌==◌, cond, List, [], ◌∷◌, map, Some, refl, sym, ◌∙◌, subst}
use Rattle.std.specs.List.{list_all, list_any}
use Rattle.std.proofs.lemmas.Bool.{or_left, or_right}
use Rattle.pipe_types.specs.declared.topology.StageSpec.{StageSpec}
use Rattle.pipe_types.specs.Sound.{is_reached, may_send_to, names_batcher, is_steps, processors}
use Rattle.config_rule.specs.RuleText.{rule_of}
use Rattle.config_settings.specs.declared.settings.ProcessorSettings.{ProcessorSettings}
use Rattle.config_settings.specs.declared.settings.BatcherSettings.{BatcherSettings}
use Rattle.config_judge.specs.Judge.{is_left_out, left_out, leads_to, unreachable_with}
use Rattle.config_build.specs.Build.{places, processor_stage, batcher_stages, rules_of}
use Rattle.config_build.specs.Limits.{next_place}
use Rattle.pipe_config.proofs.Named.{both}
use Rattle.pipe_config.proofs.Distinct.{no_fault}
use Rattle.pipe_config.proofs.Rules.{routes_lead}

-- a group of processors that may send to a batcher
pub group_sends : (k : ℕ) (known : List (List ℕ)) (q : ProcessorSettings) (first l m c : ℕ) → m ≡ suc c → may_send_to k (processor_stage known q first l 0) ≡ true → list_any (may_send_to k) (map (processor_stage known q first l) (places 0 m)) ≡ true
group_sends k known q first l m c size h =
    subst (λ (n : ℕ). list_any (may_send_to k) (map (processor_stage known q first l) (places 0 n)) ≡ true) (sym size)
    (or_left (may_send_to k (processor_stage known q first l 0)) (list_any (may_send_to k) (map (processor_stage known q first l) (places (0 + 1) c))) h)

-- processors of another kind may send anywhere
pub any_reached : (all : List StageSpec) (second b_next i : ℕ) (bs : List BatcherSettings) → ((k : ℕ) → list_any (may_send_to k) (processors all) ≡ true) → list_all (is_reached all) (batcher_stages second b_next i bs) ≡ true
any_reached all second b_next i [] h = refl
any_reached all second b_next i (b ∷ bs) h = both (or_right (i == 0) (list_any (may_send_to i) (processors all)) (h i)) (any_reached all second (next_place b_next b.limit) (i + 1) bs h)

-- a batcher that is not left out is the first or has a route
not_out : (z l : Bool) → (not z && not l) ≡ false → (z || l) ≡ true
not_out true l h = refl
not_out false true h = refl
not_out false false h = cc

either_way : (z l s : Bool) → (z || l) ≡ true → (l ≡ true → s ≡ true) → (z || s) ≡ true
either_way true l s h f = refl
either_way false l s h f = f h

pub routes_reach : (all : List StageSpec) (known steps : List (List ℕ)) (second b_next i : ℕ) (bs : List BatcherSettings) → left_out known steps i bs ≡ []
    → ((k : ℕ) → list_any (λ text. leads_to k (rule_of known text)) steps ≡ true → list_any (may_send_to k) (processors all) ≡ true) → list_all (is_reached all) (batcher_stages second b_next i bs) ≡ true
routes_reach all known steps second b_next i [] h sends = refl
routes_reach all known steps second b_next i (b ∷ bs) h sends =
    let (here, more) = no_fault (is_left_out known steps i) _ (left_out known steps (i + 1) bs) h in
    both (either_way (i == 0) (list_any (λ text. leads_to i (rule_of known text)) steps) (list_any (may_send_to i) (processors all)) (not_out (i == 0) (list_any (λ text. leads_to i (rule_of known text)) steps) here) (sends i))
    (routes_reach all known steps second (next_place b_next b.limit) (i + 1) bs more sends)

sends_by_route : (k : ℕ) (known : List (List ℕ)) (q : ProcessorSettings) (first l : ℕ) → list_any (λ text. leads_to k (rule_of known text)) q.handler.steps ≡ true → may_send_to k (processor_stage known q first l 0) ≡ true
sends_by_route k known q first l h = or_right (not (is_steps q.handler.kind)) (list_any (names_batcher k) (rules_of known q.handler.steps)) (routes_lead k known q.handler.steps ∙ h)

by_kind : (all : List StageSpec) (known : List (List ℕ)) (q : ProcessorSettings) (first l second b_next m c : ℕ) (bs : List BatcherSettings) (b : Bool) → is_steps q.handler.kind ≡ b → m ≡ suc c → processors all ≡ map (processor_stage known q first l) (places 0 m)
    → cond b (left_out known q.handler.steps 0 bs) [] ≡ [] → list_all (is_reached all) (batcher_stages second b_next 0 bs) ≡ true
by_kind all known q first l second b_next m c bs true kind size group h =
    routes_reach all known q.handler.steps second b_next 0 bs h (λ k leads. rw group (group_sends k known q first l m c size (sends_by_route k known q first l leads)))
by_kind all known q first l second b_next m c bs false kind size group h =
    any_reached all second b_next 0 bs (λ k. rw group (group_sends k known q first l m c size (or_left (not (is_steps q.handler.kind)) (list_any (names_batcher k) (rules_of known q.handler.steps)) (rw kind refl))))

pub batchers_reached : (all : List StageSpec) (known : List (List ℕ)) (q : ProcessorSettings) (first l second b_next m c : ℕ) (bs : List BatcherSettings) → m ≡ suc c → processors all ≡ map (processor_stage known q first l) (places 0 m)
    → unreachable_with known bs (Some q) ≡ [] → list_all (is_reached all) (batcher_stages second b_next 0 bs) ≡ true
batchers_reached all known q first l second b_next m c bs size group h = by_kind all known q first l second b_next m c bs (is_steps q.handler.kind) refl size group h
