-- The signs 1 and -1, as integers.
use Rattle.std.specs.Prelude.{◌≡◌, ◌⊎◌, ℤ, pos, negsuc}

-- the integer is 1 or -1
abbrev pub IsSign : ℤ → Type 0
IsSign z = (z ≡ pos 1) ⊎ (z ≡ negsuc 0)
