-- What the names of sources and sinks spell.
use Rattle.std.specs.Prelude.{◌≡◌, ◌≢◌, ◌<◌, ◌^◌, ◌⊎◌, ℕ, List, ◌∷◌, ◌++◌, codes, length, slice_index}
use Rattle.std.specs.Str.Parse.{IsNumeral, digits_value}
use Rattle.file_socket_sinks.specs.declared.names.Address.{Address}
use Rattle.file_socket_sinks.specs.declared.names.SourceName.{SourceName}
use Rattle.file_socket_sinks.specs.declared.names.SourceName.TheVariants as source
use Rattle.file_socket_sinks.specs.declared.names.SinkName.{SinkName}
use Rattle.file_socket_sinks.specs.declared.names.SinkName.TheVariants as sink

-- no byte of the text is this one
abbrev pub Lacks : ℕ → List ℕ → Type 0
Lacks byte text = (i : ℕ) → i < length text → slice_index text i ≢ byte

-- HOST:DIGITS, where the host holds no colon, or [HOST]:DIGITS, where it holds no bracket that closes
abbrev pub SplitsAddress : (text host digits : List ℕ) → Type 0
SplitsAddress text host digits = ((text ≡ host ++ (58 ∷ digits)) × Lacks 58 host × ((rest : List ℕ) → text ≢ 91 ∷ rest))
    ⊎ ((text ≡ 91 ∷ (host ++ (93 ∷ 58 ∷ digits))) × Lacks 93 host)

-- one decimal digit or more, for a number of 16 bits
pub record SpellsPort (digits : List ℕ) (port : ℕ) : Type 0 where
  pub numeral : IsNumeral 10 digits
  pub value : digits_value 10 digits ≡ port
  pub fits : port < 2 ^ 16

-- HOST:PORT
abbrev pub SpellsAddress : List ℕ → Address → Type 0
SpellsAddress text address = (digits : List ℕ) × SplitsAddress text address.host.now digits × SpellsPort digits address.port

-- file:PATH, stdin:, connect:HOST:PORT or listen:HOST:PORT
abbrev pub SpellsSource : List ℕ → SourceName → Type 0
SpellsSource name (source.File path) = name ≡ codes "file:" ++ path.now
SpellsSource name source.Input = name ≡ codes "stdin:"
SpellsSource name (source.Connect address) = (text : List ℕ) × (name ≡ codes "connect:" ++ text) × SpellsAddress text address
SpellsSource name (source.Listen address) = (text : List ℕ) × (name ≡ codes "listen:" ++ text) × SpellsAddress text address

-- file:PATH or connect:HOST:PORT
abbrev pub SpellsSink : List ℕ → SinkName → Type 0
SpellsSink name (sink.File path) = name ≡ codes "file:" ++ path.now
SpellsSink name (sink.Connect address) = (text : List ℕ) × (name ≡ codes "connect:" ++ text) × SpellsAddress text address

-- a source or a sink of this name may be there
abbrev pub IsSourceName : List ℕ → Type 0
IsSourceName name = (source : SourceName) × SpellsSource name source

abbrev pub IsSinkName : List ℕ → Type 0
IsSinkName name = (sink : SinkName) × SpellsSink name sink
