-- What holds whatever a call came to.
use Rattle.std.specs.Prelude.{Result, Ok, Err, OnOk, OnErr}

pub by_result : {T E : Type 0} (P A B : Type 0) (r : Result T E) → OnOk r A → OnErr r B → (A → P) → (B → P) → P
by_result P A B (Ok x) a b f g = f a
by_result P A B (Err e) a b f g = g b

pub on_ok : {T E : Type 0} (A C : Type 0) (r : Result T E) → OnOk r A → (A → C) → OnOk r C
on_ok A C (Ok x) a f = f a
on_ok A C (Err e) a f = tt
