-- Lists of numbers, and lists joined.
use Rattle.std.specs.Prelude.{ℕ, zero, suc, List, [], ◌∷◌, ◌++◌}

-- n - 1, .. 1, 0
abbrev pub down_from : ℕ → List ℕ
down_from zero = []
down_from (suc n) = n ∷ down_from n

abbrev pub join : {X : Type 0} → List (List X) → List X
join [] = []
join (b ∷ bs) = b ++ join bs
