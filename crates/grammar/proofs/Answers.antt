-- The law of two forms, as the other forms have theirs in `specs/Laws`: an answer depends on the bytes that it took and on one byte more.
use Rattle.std.specs.Prelude.{Bool, List, [], ◌∷◌, ℕ, refl}
use Rattle.grammar.specs.Parse.{Parser, look_two_p, span_p}
use Rattle.grammar.specs.Laws.{StrongPrefix, span-law, look_two-law}

pub span-answer : (test : ℕ → Bool) (s : List ℕ) → StrongPrefix (span_p test) s
span-answer test = span-law test refl

pub look_two-answer : {A : Type 0} (f : ℕ → ℕ → Parser A) (s : List ℕ) → ((b c : ℕ) (r : List ℕ) → StrongPrefix (f b c) (b ∷ c ∷ r)) → StrongPrefix (look_two_p f) s
look_two-answer f = look_two-law f (λ b. refl)
