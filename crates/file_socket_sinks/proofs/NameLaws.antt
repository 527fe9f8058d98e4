-- What addresses and names spell.
use Rattle.std.proofs.Common.{◌≡◌, ◌≢◌, ◌++◌, ◌∷◌, ℕ, List, Option, Some, None, IfSome, IsSomeAnd, inl, inr, rules, codes, drop, slice_index, ap, sym, ◌∙◌, subst, arith}
use Rattle.std.specs.Str.Pattern.{StripsPrefix, FindsTextPrefix}
use Rattle.std.proofs.lemmas.Str.Pattern.{IsSplitOnceResult, split_parts, split_after}
use denote.Ref.{Bor}
use Rattle.file_socket_sinks.specs.declared.names.Address.{Address}
use Rattle.file_socket_sinks.specs.declared.names.SourceName.{SourceName}
use Rattle.file_socket_sinks.specs.declared.names.SourceName.TheVariants as source
use Rattle.file_socket_sinks.specs.declared.names.SinkName.{SinkName}
use Rattle.file_socket_sinks.specs.declared.names.SinkName.TheVariants as sink
use Rattle.file_socket_sinks.specs.Names.{SplitsAddress, SpellsAddress, SpellsSource, SpellsSink}

-- what `strip_prefix` leaves stands after the prefix
pub stripped : (prefix text rest : List ℕ) → StripsPrefix (FindsTextPrefix prefix) text rest → text ≡ prefix ++ rest
stripped prefix text rest cut = cut.1.1 ∙ ap (λ t. prefix ++ t) (sym cut.2)

module _ (text : List ℕ) (bare : (rest : List ℕ) → text ≢ 91 ∷ rest) where
  -- where a text begins with no bracket, its first colon parts host and digits
  pub plain_splits : (r : Option (Bor (List ℕ) × Bor (List ℕ))) → IsSplitOnceResult 58 text r → IfSome r (λ p. SplitsAddress text p.0.now p.1.now)
  plain_splits None h = search rules
  plain_splits (Some p) h = let parts = split_parts 58 text (Some p) h (omega arith) in inl (parts.0, parts.1, bare)

  -- and nothing else does
  pub plain_only : (r : Option (Bor (List ℕ) × Bor (List ℕ))) → IsSplitOnceResult 58 text r → (host digits : List ℕ) → SplitsAddress text host digits
      → IsSomeAnd r (λ p. (p.0.now ≡ host) × (p.1.now ≡ digits))
  plain_only None h host digits (inl plain) = absurd (split_after 58 text host digits None h (omega arith) plain.0 plain.1)
  plain_only (Some p) h host digits (inl plain) = split_after 58 text host digits (Some p) h (omega arith) plain.0 plain.1
  plain_only r h host digits (inr bracketed) = absurd (bare _ bracketed.0)

module _ (name text : List ℕ) (none : (address : Address) → ¬ (SpellsAddress text address)) where
  -- a name that begins with `connect:` spells nothing where no address follows
  pub no_peer : name ≡ codes "connect:" ++ text → (s : SourceName) → ¬ (SpellsSource name s)
  no_peer is (source.File path) spells = let e : 99 ≡ 102 = ap (λ t. slice_index t 0) (sym is ∙ spells) in omega (arith, e)
  no_peer is source.Input spells = let e : 99 ≡ 115 = ap (λ t. slice_index t 0) (sym is ∙ spells) in omega (arith, e)
  no_peer is (source.Connect address) spells =
      none address (subst (λ t. SpellsAddress t address) (ap (drop 8) (sym spells.1 ∙ is)) spells.2)
  no_peer is (source.Listen address) spells = let e : 99 ≡ 108 = ap (λ t. slice_index t 0) (sym is ∙ spells.1) in omega (arith, e)

  -- nor does one that begins with `listen:`
  pub no_listener : name ≡ codes "listen:" ++ text → (s : SourceName) → ¬ (SpellsSource name s)
  no_listener is (source.File path) spells = let e : 108 ≡ 102 = ap (λ t. slice_index t 0) (sym is ∙ spells) in omega (arith, e)
  no_listener is source.Input spells = let e : 108 ≡ 115 = ap (λ t. slice_index t 0) (sym is ∙ spells) in omega (arith, e)
  no_listener is (source.Connect address) spells = let e : 108 ≡ 99 = ap (λ t. slice_index t 0) (sym is ∙ spells.1) in omega (arith, e)
  no_listener is (source.Listen address) spells =
      none address (subst (λ t. SpellsAddress t address) (ap (drop 7) (sym spells.1 ∙ is)) spells.2)

  -- nor does a sink's
  pub no_sink_peer : name ≡ codes "connect:" ++ text → (s : SinkName) → ¬ (SpellsSink name s)
  no_sink_peer is (sink.File path) spells = let e : 99 ≡ 102 = ap (λ t. slice_index t 0) (sym is ∙ spells) in omega (arith, e)
  no_sink_peer is (sink.Connect address) spells =
      none address (subst (λ t. SpellsAddress t address) (ap (drop 8) (sym spells.1 ∙ is)) spells.2)
