-- The groups of the stages that settings give: their roles and how many stages they have.
use Rattle.std.proofs.Common.{◌≡◌, ℕ, zero, suc, ◌+◌, Bool, true, false, cond, List, [], ◌∷◌, ◌++◌, length, map, filter, Option, Some, None, refl, ap, ◌∙◌, append-nil, length-append}
use Rattle.std.proofs.lemmas.List.Elements.{filter-append}
use Rattle.pipe_types.specs.declared.topology.StageSpec.{StageSpec}
use Rattle.pipe_types.specs.declared.topology.Role.{Role}
use Rattle.pipe_types.specs.declared.topology.Role.TheVariants as role
use Rattle.pipe_types.specs.Sound.{producers, processors, batchers, is_producer, is_processor, is_batcher}
use Rattle.config_settings.specs.declared.settings.ProducerSettings.{ProducerSettings}
use Rattle.config_settings.specs.declared.settings.ProcessorSettings.{ProcessorSettings}
use Rattle.config_settings.specs.declared.settings.SupervisorSettings.{SupervisorSettings}
use Rattle.config_settings.specs.declared.settings.BatcherSettings.{BatcherSettings}
use Rattle.config_judge.specs.Judge.{processor_count, supervisor_count, batch_processor_count}
use Rattle.config_build.specs.Build.{producer_stages, places, processor_stage, processor_stages, supervisor_stages, batcher_stages, batch_processor_stage, batch_processor_stages}
use Rattle.config_build.specs.Limits.{limit_place, next_place}

-- every stage has this role
abbrev pub AllRole : Role → List StageSpec → Type 0
AllRole r [] = Unit {0}
AllRole r (s ∷ stages) = (s.role ≡ r) × AllRole r stages

pub AllRole-append : (r : Role) (xs ys : List StageSpec) → AllRole r xs → AllRole r ys → AllRole r (xs ++ ys)
AllRole-append r [] ys a b = b
AllRole-append r (x ∷ xs) ys a b = (a.0, AllRole-append r xs ys a.1 b)

filter_cons : (b c : Bool) (x : StageSpec) (xs : List StageSpec) → b ≡ c → cond b (x ∷ cond c xs []) (cond c xs []) ≡ cond c (x ∷ xs) []
filter_cons true true x xs e = refl
filter_cons false false x xs e = refl
filter_cons true false x xs e = cc
filter_cons false true x xs e = cc

same_either : (b : Bool) (xs : List StageSpec) → xs ≡ cond b xs xs
same_either true xs = refl
same_either false xs = refl

-- a filter by role takes all of a group or none
pub filter_role : (f : Role → Bool) (r : Role) (xs : List StageSpec) → AllRole r xs → filter (λ s. f s.role) xs ≡ cond (f r) xs []
filter_role f r [] h = same_either (f r) []
filter_role f r (x ∷ xs) h = rw (filter_role f r xs h.1) (filter_cons (f x.role) (f r) x xs (ap f h.0))

pub role_producers : (field : Option ℕ) (n l i : ℕ) (ps : List ProducerSettings) → AllRole role.Producer (producer_stages field n l i ps)
role_producers field n l i [] = tt
role_producers field n l i (p ∷ ps) = (refl, role_producers field n (next_place l p.limit) (i + 1) ps)

pub role_map : (f : ℕ → StageSpec) (r : Role) → ((i : ℕ) → (f i).role ≡ r) → (is : List ℕ) → AllRole r (map f is)
role_map f r h [] = tt
role_map f r h (i ∷ is) = (h i, role_map f r h is)

pub role_processors : (known : List (List ℕ)) (before l : ℕ) (p : Option ProcessorSettings) → AllRole role.Processor (processor_stages known before l p)
role_processors known before l None = tt
role_processors known before l (Some p) = role_map (processor_stage known p before (limit_place l p.limit)) role.Processor (λ i. refl) (places 0 p.concurrency)

pub role_supervisors : (before l : ℕ) (s : Option SupervisorSettings) → AllRole role.Supervisor (supervisor_stages before l s)
role_supervisors before l None = tt
role_supervisors before l (Some s) = (refl, tt)

pub role_batchers : (before l i : ℕ) (bs : List BatcherSettings) → AllRole role.Batcher (batcher_stages before l i bs)
role_batchers before l i [] = tt
role_batchers before l i (b ∷ bs) = (refl, role_batchers before (next_place l b.limit) (i + 1) bs)

pub role_batch_processors : (before l k : ℕ) (bs : List BatcherSettings) → AllRole role.BatchProcessor (batch_processor_stages before l k bs)
role_batch_processors before l k [] = tt
role_batch_processors before l k (b ∷ bs) =
    AllRole-append role.BatchProcessor (map (batch_processor_stage k b before (limit_place l b.limit)) (places 0 b.concurrency)) (batch_processor_stages (before + b.concurrency) (next_place l b.limit) (k + 1) bs)
    (role_map (batch_processor_stage k b before (limit_place l b.limit)) role.BatchProcessor (λ i. refl) (places 0 b.concurrency))
    (role_batch_processors (before + b.concurrency) (next_place l b.limit) (k + 1) bs)

-- ---- how many

pub length-producers : (field : Option ℕ) (n l i : ℕ) (ps : List ProducerSettings) → length (producer_stages field n l i ps) ≡ length ps
length-producers field n l i [] = refl
length-producers field n l i (p ∷ ps) = ap suc (length-producers field n (next_place l p.limit) (i + 1) ps)

pub length-places : (f : ℕ → StageSpec) (i n : ℕ) → length (map f (places i n)) ≡ n
length-places f i zero = refl
length-places f i (suc n) = ap suc (length-places f (i + 1) n)

pub length-processors : (known : List (List ℕ)) (before l : ℕ) (p : Option ProcessorSettings) → length (processor_stages known before l p) ≡ processor_count p
length-processors known before l None = refl
length-processors known before l (Some p) = length-places (processor_stage known p before (limit_place l p.limit)) 0 p.concurrency

pub length-supervisors : (before l : ℕ) (s : Option SupervisorSettings) → length (supervisor_stages before l s) ≡ supervisor_count s
length-supervisors before l None = refl
length-supervisors before l (Some s) = refl

pub length-batchers : (before l i : ℕ) (bs : List BatcherSettings) → length (batcher_stages before l i bs) ≡ length bs
length-batchers before l i [] = refl
length-batchers before l i (b ∷ bs) = ap suc (length-batchers before (next_place l b.limit) (i + 1) bs)

pub length-batch_processors : (before l k : ℕ) (bs : List BatcherSettings) → length (batch_processor_stages before l k bs) ≡ batch_processor_count bs
length-batch_processors before l k [] = refl
length-batch_processors before l k (b ∷ bs) =
    length-append (map (batch_processor_stage k b before (limit_place l b.limit)) (places 0 b.concurrency)) (batch_processor_stages (before + b.concurrency) (next_place l b.limit) (k + 1) bs)
    ∙ (ap (λ n. n + length (batch_processor_stages (before + b.concurrency) (next_place l b.limit) (k + 1) bs)) (length-places (batch_processor_stage k b before (limit_place l b.limit)) 0 b.concurrency)
    ∙ ap (λ n. b.concurrency + n) (length-batch_processors (before + b.concurrency) (next_place l b.limit) (k + 1) bs))

-- ---- five groups in a row

module _ (ps cs ss bs ds : List StageSpec) (p : AllRole role.Producer ps) (c : AllRole role.Processor cs) (s : AllRole role.Supervisor ss) (b : AllRole role.Batcher bs) (d : AllRole role.BatchProcessor ds) where
  abbrev pub five : List StageSpec
  five = ps ++ (cs ++ (ss ++ (bs ++ ds)))

  filter_five : (f : Role → Bool) → filter (λ x. f x.role) five ≡ cond (f role.Producer) ps [] ++ (cond (f role.Processor) cs [] ++ (cond (f role.Supervisor) ss [] ++ (cond (f role.Batcher) bs [] ++ cond (f role.BatchProcessor) ds [])))
  filter_five f =
      rw (
        filter-append (λ x. f x.role) ps (cs ++ (ss ++ (bs ++ ds))),
        filter-append (λ x. f x.role) cs (ss ++ (bs ++ ds)),
        filter-append (λ x. f x.role) ss (bs ++ ds),
        filter-append (λ x. f x.role) bs ds,
        filter_role f role.Producer ps p,
        filter_role f role.Processor cs c,
        filter_role f role.Supervisor ss s,
        filter_role f role.Batcher bs b,
        filter_role f role.BatchProcessor ds d,
      )

  pub five_producers : producers five ≡ ps
  five_producers = filter_five is_producer ∙ append-nil ps

  pub five_processors : processors five ≡ cs
  five_processors = filter_five is_processor ∙ append-nil cs

  pub five_batchers : batchers five ≡ bs
  five_batchers = filter_five is_batcher ∙ append-nil bs
