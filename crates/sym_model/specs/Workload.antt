-- The command `work`: the generator of the lines that it runs, and the summary of the texts that these lines give. The
-- state of the generator is a number, and each draw replaces it by the next state (`draw`).
use Rattle.std.specs.Prelude.{ℕ, zero, suc, ◌+◌, ◌*◌, ◌%◌, List, [], ◌∷◌, ◌++◌, map, length, cond}
use Rattle.std.specs.Prelude.{codes, decimal}
use Rattle.sym_model.specs.Polynomial.{same}
use Rattle.sym_model.specs.Partition.{size, without_last_zeros}
use Rattle.sym_model.specs.PlaceOrders.{places}
use Rattle.sym_model.specs.Schur.{times_in}
use Rattle.sym_model.specs.PrintedBlock.{numbers_text}
use Rattle.sym_model.specs.Permutation.{letters_by_code}
use Rattle.sym_model.specs.TableauText.{separated}

-- the state of the generator that follows the state x
abbrev pub draw : ℕ → ℕ
draw x = (75 * x + 74) % 65537

-- the state of the generator after k draws from the state x
abbrev pub after_draws : ℕ → ℕ → ℕ
after_draws zero x = x
after_draws (suc k) x = after_draws k (draw x)

-- the k-th state of the generator after the state x, modulo t
abbrev pub drawn : ℕ → ℕ → ℕ → ℕ
drawn k t x = after_draws k x % t

-- the partition that is made from three draws a, b, c modulo t from the state x on: the parts a + b + c, b + c and c,
-- without zeros
abbrev pub partition_drawn : ℕ → ℕ → List ℕ
partition_drawn t x =
    let a = drawn 1 t x in
    let b = drawn 2 t x in
    let c = drawn 3 t x in
    without_last_zeros ((a + b + c) ∷ (b + c) ∷ c ∷ [])

-- a code of four entries, drawn from the state x on: three draws modulo 4, 3 and 2, and 0
abbrev pub code_drawn : ℕ → List ℕ
code_drawn x = drawn 1 4 x ∷ drawn 2 3 x ∷ drawn 3 2 x ∷ 0 ∷ []

-- the words of a command with two lists of numbers: its name, the first list, a word between them, and the second list
abbrev pub between : List ℕ → List ℕ → List ℕ → List ℕ → List (List ℕ)
between name first sign second = name ∷ map decimal first ++ (sign ∷ map decimal second)

-- the words of a generated line of the given kind, 0 for `mult`, 1 for `skew`, 2 for `coprod`, 3 for `schubmult` and
-- otherwise `expand`; its numbers are drawn from the state x on
abbrev pub words_drawn : ℕ → ℕ → List (List ℕ)
words_drawn zero x =
    between (codes "mult") (partition_drawn 3 x) (codes "-") (partition_drawn 3 (after_draws 3 x))
words_drawn (suc zero) x =
    between (codes "skew") (partition_drawn 4 x) (codes "/") (partition_drawn 2 (after_draws 3 x))
words_drawn (suc (suc zero)) x = codes "coprod" ∷ map decimal (partition_drawn 3 x)
words_drawn (suc (suc (suc zero))) x =
    between (codes "schubmult") (letters_by_code (code_drawn x) (places 4)) (codes "-")
    (letters_by_code (code_drawn (after_draws 3 x)) (places 4))
words_drawn kind x =
    codes "expand" ∷ codes "p" ∷ (codes "m[" ++ (numbers_text (partition_drawn 3 x) ++ codes "]"))
    ∷ []

-- the number of draws that a generated line of the given kind makes after the draw of its kind
abbrev pub draws_of : ℕ → ℕ
draws_of zero = 6
draws_of (suc zero) = 6
draws_of (suc (suc zero)) = 3
draws_of (suc (suc (suc zero))) = 6
draws_of kind = 3

-- the words of the line that is generated from the state x on: the first draw, modulo 5, gives its kind
abbrev pub line_words : ℕ → List (List ℕ)
line_words x = words_drawn (drawn 1 5 x) (draw x)

-- the line that is generated from the state x on: its words with one space between neighbours
abbrev pub work_line : ℕ → List ℕ
work_line x = separated (codes " ") (line_words x)

-- the state of the generator after the line that is generated from the state x on
abbrev pub after_line : ℕ → ℕ
after_line x = after_draws (suc (draws_of (drawn 1 5 x))) x

-- the first n lines that are generated from the state x on
abbrev pub work_lines : ℕ → ℕ → List (List ℕ)
work_lines zero x = []
work_lines (suc n) x = work_line x ∷ work_lines n (after_line x)

-- the number of terms in the text of a block: the number of its lines, or 0 if it is the line `0`
abbrev pub terms_in : List ℕ → ℕ
terms_in block = cond (same block (codes "0\n")) 0 (times_in 10 block)

-- the summary of the texts of the blocks: the number of blocks, one for each line that is run, and the numbers of
-- terms and of bytes in all of them
abbrev pub summary_text : List (List ℕ) → List ℕ
summary_text blocks =
    codes "lines "
    ++ (decimal (length blocks)
    ++ (codes "\nterms "
    ++ (decimal (size (map terms_in blocks))
    ++ (codes "\nbytes " ++ (decimal (size (map length blocks)) ++ codes "\n")))))
