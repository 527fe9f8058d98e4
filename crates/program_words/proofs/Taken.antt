-- From the clauses of clap's calls to what clap takes.
use Rattle.std.proofs.Common.{◌≡◌, ◌⊎◌, ◌∙◌, ℕ, suc, Bool, true, false, List, [], ◌∷◌, Option, Some, None, codes, inl, inr, refl, sym, subst, ap, arith, ne_eqb, not, is_some, option_and_then, true≢false, length, ◌==◌}
use Rattle.std.specs.Option.{option_eq, option_map_or}
use Rattle.clap.specs.Words.{App, IsAmong, Kinds, Row, Text, app_of, fault_of, first_of, new_app, subcommand_of}
use Rattle.clap.specs.Walk.{is_empty}
use Rattle.clap.specs.Simple.{Shape, app_of_fields, on_top}
use Rattle.clap.specs.Takes.{is_given}
use Rattle.clap.specs.Facts.{explicit_source}
use Rattle.clap.specs.declared.parser.ValueSource.{ValueSource}
use Rattle.clap.specs.declared.parser.ValueSource.TheVariants.{CommandLine, DefaultValue}
use Rattle.clap.specs.declared.builder.command.Command.{Command as Program}
use Rattle.clap.specs.declared.builder.command.Command.TheViews.{out-Command}
use Rattle.clap.specs.declared.error.ErrorKind.{ErrorKind}
use Rattle.clap.specs.declared.error.ErrorKind.TheVariants.{OutOfMemory}
use Rattle.program_words.specs.Words.{Command, Run, Gen, Audit, audit_of, bare_grammar, gen_of, grammar, named_in, run_of, sink_of, taken_of}

-- where clap finds no fault, the command is that of the subcommand it found
pub no_fault : (words : List Text) (entered : Option (Text × List Row)) → fault_of grammar words ≡ [] → entered ≡ subcommand_of grammar words
    → option_and_then named_in entered ≡ taken_of words
unfolding taken_of
no_fault words entered none is = ap (option_and_then named_in) is ∙ sym (rw none refl)

not_taken : (words : List Text) → is_empty (fault_of grammar words) ≡ false → None ≡ taken_of words
unfolding taken_of
not_taken words some = rw some refl

-- where it finds one, there is none
pub fault : (a : App) (words : List Text) (k e : ErrorKind) → a ≡ grammar → e ≡ k → (e ≡ OutOfMemory → ⊥) → (k ≡ OutOfMemory) ⊎ IsAmong k (fault_of a words)
    → None ≡ taken_of words
fault a words k e is kind other (inl memory) = absurd (other (kind ∙ memory))
fault a words k e is kind other (inr among) = go (fault_of grammar words) refl (subst (λ x. IsAmong k (fault_of x words)) is among)
  where
    go : (kinds : Kinds) → fault_of grammar words ≡ kinds → IsAmong k kinds → None ≡ taken_of words
    go [] at h = absurd h
    go (x ∷ xs) at h = not_taken words (ap is_empty at ∙ ne_eqb _ _ (λ e. omega arith))

-- the settings of a program without its name and without help
pub bare : (start named flag sub : Program) → app_of start ≡ new_app (codes "wamiondry")
    → out-Command named ≡ record (out-Command start) { no_binary_name = true }
    → out-Command flag ≡ record (out-Command named) { disable_help_flag = true }
    → out-Command sub ≡ record (out-Command flag) { disable_help_subcommand = true } → app_of sub ≡ bare_grammar
bare start named flag sub new first second third =
    ap app_of_fields third ∙ ap (on_top (λ (s : Shape). record s { disable_help_subcommand = true }))
    (ap app_of_fields second ∙ ap (on_top (λ (s : Shape). record s { disable_help_flag = true }))
    (ap app_of_fields first ∙ ap (on_top (λ (s : Shape). record s { no_binary_name = true })) new))

-- a run, by its parts
pub run_read : (topology : Option Text) (workers : Option ℕ) (live : Option (Option Text)) (acks steps given_acks given_steps : Bool) (t : Text) (n : ℕ) (l : Option Text) → Some t ≡ topology → Some n ≡ workers → Some l ≡ live
    → acks ≡ given_acks → steps ≡ given_steps → Some (Run t n acks steps l) ≡ run_of topology workers live given_acks given_steps
run_read topology workers live acks steps given_acks given_steps t n l first second third fourth fifth = rw (← first, ← second, ← third, fourth, fifth) refl

pub no_file : (topology : Option Text) (workers : Option ℕ) (live : Option (Option Text)) (acks steps : Bool) → None ≡ topology → None ≡ run_of topology workers live acks steps
no_file None workers live acks steps none = refl
no_file (Some t) workers live acks steps none = cc

pub no_workers : (topology : Option Text) (workers : Option ℕ) (live : Option (Option Text)) (acks steps : Bool) → None ≡ workers → None ≡ run_of topology workers live acks steps
no_workers None workers live acks steps none = refl
no_workers (Some t) None live acks steps none = refl
no_workers (Some t) (Some n) live acks steps none = cc

pub no_live : (topology : Option Text) (workers : Option ℕ) (live : Option (Option Text)) (acks steps : Bool) → None ≡ live → None ≡ run_of topology workers live acks steps
no_live None workers live acks steps none = refl
no_live (Some t) None live acks steps none = refl
no_live (Some t) (Some n) None acks steps none = refl
no_live (Some t) (Some n) (Some l) acks steps none = cc

-- the name of a sink
pub named_sink : (text : Text) → false ≡ (length text == 0) → Some (Some text) ≡ sink_of text
named_sink [] some = cc
named_sink (code ∷ rest) some = refl

pub empty_sink : (text : Text) → true ≡ (length text == 0) → None ≡ sink_of text
empty_sink [] none = refl
empty_sink (code ∷ rest) none =
    let no : true ≡ false = none ∙ ne_eqb (suc (length rest)) 0 (omega arith) in
    absurd (true≢false no)

-- generated records, by their parts
pub gen_read : (seed count : Option ℕ) (topology : Option Text) (s n : ℕ) (t : Text) → Some s ≡ seed → Some n ≡ count → Some t ≡ topology → Some (Gen s n t) ≡ gen_of seed count topology
gen_read seed count topology s n t first second third = rw (← first, ← second, ← third) refl

pub no_seed : (seed count : Option ℕ) (topology : Option Text) → None ≡ seed → None ≡ gen_of seed count topology
no_seed None count topology none = refl
no_seed (Some s) count topology none = cc

pub no_count : (seed count : Option ℕ) (topology : Option Text) → None ≡ count → None ≡ gen_of seed count topology
no_count None count topology none = refl
no_count (Some s) None topology none = refl
no_count (Some s) (Some n) topology none = cc

pub no_topology : (seed count : Option ℕ) (topology : Option Text) → None ≡ topology → None ≡ gen_of seed count topology
no_topology None count topology none = refl
no_topology (Some s) None topology none = refl
no_topology (Some s) (Some n) None none = refl
no_topology (Some s) (Some n) (Some t) none = cc

-- an audit, by its parts
pub audit_read : (journal topology : Option Text) (j t : Text) → Some j ≡ journal → Some t ≡ topology → Some (Audit j t) ≡ audit_of journal topology
audit_read journal topology j t first second = rw (← first, ← second) refl

pub no_journal : (journal topology : Option Text) → None ≡ journal → None ≡ audit_of journal topology
no_journal None topology none = refl
no_journal (Some j) topology none = cc

pub none_audited : (journal topology : Option Text) → None ≡ topology → None ≡ audit_of journal topology
none_audited None topology none = refl
none_audited (Some j) None none = refl
none_audited (Some j) (Some t) none = cc

-- something whose source is no default is given
pub explicit : {A : Type 0} (of : A → Option ValueSource) (eq : ValueSource → ValueSource → Bool) (found : Option A) (source : Option ValueSource) (b : Bool)
    → eq DefaultValue DefaultValue ≡ true → eq CommandLine DefaultValue ≡ false
    → source ≡ option_and_then of found → b ≡ not (option_eq eq source (Some DefaultValue)) → true ≡ is_some found
    → b ≡ option_map_or (λ a. explicit_source (of a)) found false
explicit of eq None source b same other is differs some = absurd (true≢false some)
explicit of eq (Some a) source b same other is differs some = differs ∙ ap (λ o. not (option_eq eq o (Some DefaultValue))) is ∙ go (of a)
  where
    go : (o : Option ValueSource) → not (option_eq eq o (Some DefaultValue)) ≡ explicit_source o
    go None = refl
    go (Some DefaultValue) = ap not same
    go (Some CommandLine) = ap not other

pub absent : {A : Type 0} (of : A → Option ValueSource) (found : Option A) → false ≡ is_some found → false ≡ option_map_or (λ a. explicit_source (of a)) found false
absent of None none = refl
absent of (Some a) none = absurd (true≢false (sym none))
