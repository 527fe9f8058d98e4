-- Which words are a command. Words whose first is `flow` are taken as they stand. All others are what clap takes.
use Rattle.std.specs.Prelude.{ℕ, List, [], ◌∷◌, Bool, true, ◌&&◌, Option, Some, None, codes, map, find, if◌then◌else◌, string_bytes, decimal, option_and_then, option_map}
use Rattle.std.specs.List.{range_with_len}
use Rattle.std.specs.Option.{option_map_or}
use Rattle.std.specs.Str.{bytes_eq}
use Rattle.std.specs.Str.Parse.{digits_value}
use Rattle.pipe_types.specs.Sound.{is_between}
use Rattle.std.specs.declared.string.String.{String}
use Rattle.std.specs.declared.alloc.Global.{Global}
use Rattle.clap.specs.Words.{App, Row, Rule, Text, fault_of, first_of, new_app, new_rule, subcommand_of, with_rule, with_subcommand}
use Rattle.clap.specs.Walk.{is_empty}
use Rattle.clap.specs.Simple.{on_top}
use Rattle.clap.specs.Takes.{is_given}
use Rattle.clap.specs.declared.builder.ArgAction.TheVariants.{SetTrue}
use Rattle.program_words.specs.declared.words.Command as code
use Rattle.program_words.specs.declared.words.Command.TheVariants as coded

-- `flow` with the name of a source and a prefix, `check` and `upgrade` with a topology file, `run` with one, the number of
-- workers, whether the acknowledgements and the steps are asked for, and the name of a sink for live acknowledgements, if there
-- is one, `gen` with a seed, how many records are to be generated, and a topology file, and `audit` with the name of a source
-- and a topology file
pub data Command : Type 0 where
  Flow : (source prefix : List ℕ) → Command
  Check : (topology : List ℕ) → Command
  Run : (topology : List ℕ) → (workers : ℕ) → (acks steps : Bool) → (live : Option (List ℕ)) → Command
  Gen : (seed count : ℕ) → (topology : List ℕ) → Command
  Upgrade : (topology : List ℕ) → Command
  Audit : (journal topology : List ℕ) → Command

-- ---- `flow`

-- the words after `flow`, which are exactly two
abbrev pub flow_of : List Text → Option Command
flow_of (source ∷ prefix ∷ []) = Some (Flow source prefix)
flow_of _ = None

-- ---- what clap takes

-- a word that has to be there
abbrev pub word_rule : Text → Rule
word_rule name = record (new_rule name) { required = true }

-- the topology file, which has to be named
abbrev pub topology_rule : Rule
topology_rule = word_rule (codes "topology")

-- `--workers N` or `--workers=N`
abbrev pub workers_rule : Rule
workers_rule = record (new_rule (codes "workers")) { long = Some (codes "workers") }

-- `--live SINK` or `--live=SINK`
abbrev pub live_rule : Rule
live_rule = record (new_rule (codes "live")) { long = Some (codes "live") }

-- an option that takes no value
abbrev pub flag_rule : Text → Rule
flag_rule name = record (new_rule name) { long = Some name; action = Some SetTrue }

-- `check TOPOLOGY`
abbrev pub check_grammar : App
check_grammar = with_rule (new_app (codes "check")) topology_rule

-- `run TOPOLOGY [--workers N] [--acks] [--steps] [--live SINK]`
abbrev pub run_grammar : App
run_grammar = with_rule (with_rule (with_rule (with_rule (with_rule (new_app (codes "run"))
    topology_rule) workers_rule) (flag_rule (codes "acks"))) (flag_rule (codes "steps"))) live_rule

-- `gen SEED COUNT TOPOLOGY`
abbrev pub gen_grammar : App
gen_grammar = with_rule (with_rule (with_rule (new_app (codes "gen")) (word_rule (codes "seed"))) (word_rule (codes "count"))) topology_rule

-- `upgrade TOPOLOGY`
abbrev pub upgrade_grammar : App
upgrade_grammar = with_rule (new_app (codes "upgrade")) topology_rule

-- `audit JOURNAL TOPOLOGY`
abbrev pub audit_grammar : App
audit_grammar = with_rule (with_rule (new_app (codes "audit")) (word_rule (codes "journal"))) topology_rule

-- a program whose words come without its name, and which has no help
abbrev pub bare_grammar : App
bare_grammar = on_top (λ s. record s {
  no_binary_name = true;
  disable_help_flag = true;
  disable_help_subcommand = true;
}) (new_app (codes "wamiondry"))

-- `check`, `run`, `gen`, `upgrade` or `audit`, each with its own words after it. By what clap takes of it: the command's word comes first; after
-- it options and the other words stand in any order, these among themselves in the order given; an option is written in full and at most once, `--workers N` or
-- `--workers=N`, `--live SINK` or `--live=SINK`, `--acks` and `--steps` without a value; `--` ends the options; there is no help and no version
abbrev pub grammar : App
grammar =
    with_subcommand (with_subcommand (with_subcommand (with_subcommand (with_subcommand bare_grammar check_grammar.top) run_grammar.top) gen_grammar.top) upgrade_grammar.top) audit_grammar.top

-- ---- from clap's matches to the command

-- the number from 1 to 16 whose decimal spelling the text is
unfoldable pub workers_of : Text → Option ℕ
workers_of text = find (λ n. bytes_eq text (decimal n)) (range_with_len 1 16)

-- the N of `--workers`, and 1 where the option is not given
abbrev pub workers_in : List Row → Option ℕ
workers_in rows = option_map_or workers_of (first_of (codes "workers") rows) (Some 1)

-- the number from `low` to `high` whose decimal spelling the text is
unfoldable pub number_in : (low high : ℕ) → Text → Option ℕ
number_in low high text =
    if is_between low high (digits_value 10 text) && bytes_eq text (decimal (digits_value 10 text)) then Some (digits_value 10 text) else None

-- the number in the range that the word of this name spells
abbrev pub number_at : (name : Text) → (low high : ℕ) → List Row → Option ℕ
number_at name low high rows = option_and_then (number_in low high) (first_of name rows)

abbrev pub check_in : List Row → Option Command
check_in rows = option_map Check (first_of (codes "topology") rows)

abbrev pub upgrade_in : List Row → Option Command
upgrade_in rows = option_map Upgrade (first_of (codes "topology") rows)

-- the sink that the text after `--live` names: no empty text names one
abbrev pub sink_of : Text → Option (Option Text)
sink_of [] = None
sink_of (code ∷ rest) = Some (Some (code ∷ rest))

-- the sink of `--live`, if the option is given; an empty name is no sink, and then there is no command
abbrev pub live_in : List Row → Option (Option Text)
live_in rows = option_map_or sink_of (first_of (codes "live") rows) (Some None)

abbrev pub run_of : (topology : Option Text) → (workers : Option ℕ) → (live : Option (Option Text)) → (acks steps : Bool) → Option Command
run_of (Some topology) (Some workers) (Some live) acks steps = Some (Run topology workers acks steps live)
run_of _ _ _ acks steps = None

abbrev pub run_in : List Row → Option Command
run_in rows = run_of (first_of (codes "topology") rows) (workers_in rows) (live_in rows) (is_given (codes "acks") rows) (is_given (codes "steps") rows)

abbrev pub gen_of : (seed count : Option ℕ) → (topology : Option Text) → Option Command
gen_of (Some seed) (Some count) (Some topology) = Some (Gen seed count topology)
gen_of _ _ _ = None

-- a seed of 32 bits, and from 1 to 2,000,000 records
abbrev pub gen_in : List Row → Option Command
gen_in rows = gen_of (number_at (codes "seed") 0 4294967295 rows) (number_at (codes "count") 1 2000000 rows) (first_of (codes "topology") rows)

abbrev pub audit_of : (journal topology : Option Text) → Option Command
audit_of (Some journal) (Some topology) = Some (Audit journal topology)
audit_of _ _ = None

abbrev pub audit_in : List Row → Option Command
audit_in rows = audit_of (first_of (codes "journal") rows) (first_of (codes "topology") rows)

-- the command of this name, by what was found of its own words
abbrev pub named_in : Text × List Row → Option Command
named_in entered = if bytes_eq entered.0 (codes "check") then check_in entered.1
    else (if bytes_eq entered.0 (codes "run") then run_in entered.1
    else (if bytes_eq entered.0 (codes "gen") then gen_in entered.1
    else (if bytes_eq entered.0 (codes "upgrade") then upgrade_in entered.1
    else (if bytes_eq entered.0 (codes "audit") then audit_in entered.1 else None))))

-- what clap takes: it finds no fault in the words, and they name a command
unfoldable pub taken_of : List Text → Option Command
taken_of words = if is_empty (fault_of grammar words) then option_and_then named_in (subcommand_of grammar words) else None

-- ---- the command that the words are

abbrev pub command_of : List (List ℕ) → Option Command
command_of [] = None
command_of (word ∷ words) = if bytes_eq word (codes "flow") then flow_of words else taken_of (word ∷ words)

-- the words as bytes
abbrev pub texts_of : List (String Global) → List (List ℕ)
texts_of words = map string_bytes words

-- the command that was read
abbrev pub seen_as : Option code.Command → Option Command
seen_as None = None
seen_as (Some (coded.Flow words)) = Some (Flow words.source.now words.prefix.now)
seen_as (Some (coded.Check topology)) = Some (Check topology.now)
seen_as (Some (coded.Gen words)) = Some (Gen words.seed words.count words.topology.now)
seen_as (Some (coded.Upgrade topology)) = Some (Upgrade topology.now)
seen_as (Some (coded.Audit words)) = Some (Audit words.journal.now words.topology.now)
seen_as (Some (coded.Run words)) = Some (Run words.topology.now words.workers words.acks words.steps (option_map (λ sink. sink.now) words.live))
