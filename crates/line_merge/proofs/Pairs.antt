-- Things that are both there.
use Rattle.std.proofs.Common.{◌≡◌}
use Rattle.std.specs.Prelude.{Option, Some, None}
use Rattle.line_merge.specs.Streams.{Both, There}

pub both_map : {A B : Type 0} (R S : A → B → Type 0) (x : Option A) (y : Option B) → Both R x y → ((a : A) (b : B) → R a b → S a b) → Both S x y
both_map R S (Some a) (Some b) r go = go a b r
both_map R S None None r go = tt
both_map R S (Some a) None r go = absurd r
both_map R S None (Some b) r go = absurd r

pub both_then : {A B C : Type 0} (R : A → B → Type 0) (S : B → C → Type 0) (T : A → C → Type 0) (x : Option A) (y : Option B) (z : Option C)
    → Both R x y → Both S y z → ((a : A) (b : B) (c : C) → R a b → S b c → T a c) → Both T x z
both_then R S T (Some a) (Some b) (Some c) r s go = go a b c r s
both_then R S T None None None r s go = tt
both_then R S T (Some a) None z r s go = absurd r
both_then R S T None (Some b) z r s go = absurd r
both_then R S T (Some a) (Some b) None r s go = absurd s
both_then R S T None None (Some c) r s go = absurd s

pub there_then : {A B C : Type 0} (R : A → B → Type 0) (S : B → C → Type 0) (T : A → C → Type 0) (x : Option A) (y : Option B) (z : Option C)
    → Both R x y → There S y z → ((a : A) (b : B) (c : C) → R a b → S b c → T a c) → There T x z
there_then R S T (Some a) (Some b) (Some c) r s go = go a b c r s
there_then R S T None None z r s go = absurd s
there_then R S T (Some a) None z r s go = absurd r
there_then R S T None (Some b) z r s go = absurd r
there_then R S T (Some a) (Some b) None r s go = absurd s

pub there_map : {A B : Type 0} (R S : A → B → Type 0) (x : Option A) (y : Option B) → There R x y → ((a : A) (b : B) → R a b → S a b) → There S x y
there_map R S (Some a) (Some b) r go = go a b r
there_map R S None y r go = absurd r
there_map R S (Some a) None r go = absurd r

pub there_both : {A B : Type 0} (R : A → B → Type 0) (x : Option A) (y : Option B) → There R x y → Both R x y
there_both R (Some a) (Some b) r = r
there_both R None y r = absurd r
there_both R (Some a) None r = absurd r

pub both_same : {A : Type 0} (R : A → A → Type 0) (x : Option A) → ((a : A) → R a a) → Both R x x
both_same R (Some a) go = go a
both_same R None go = tt

-- two facts of the same two
pub both_and : {A B : Type 0} (R S T : A → B → Type 0) (x : Option A) (y : Option B) → Both R x y → Both S x y → ((a : A) (b : B) → R a b → S a b → T a b) → Both T x y
both_and R S T (Some a) (Some b) r s go = go a b r s
both_and R S T None None r s go = tt
both_and R S T (Some a) None r s go = absurd r
both_and R S T None (Some b) r s go = absurd r

-- the first that is there
pub of_both : {A B : Type 0} (R : A → B → Type 0) (a : A) (x : Option A) (y : Option B) (C : Type 0) → x ≡ Some a → Both R x y → ((b : B) → R a b → C) → C
of_both R a (Some x) (Some b) C is r go = go b (let e : x ≡ a = cc in rw e at r)
of_both R a (Some x) None C is r go = absurd r
of_both R a None y C is r go = cc
