-- A partition, split into its last part and the parts before it.
--     insert_part-end      a number that is at most every part is inserted after all parts
--     last_part            each nonempty partition is a partition followed by a positive number
use Rattle.std.proofs.lemmas.Grind.{common_steps}
use Rattle.std.proofs.Common.{◌≡◌, ℕ, suc, ◌+◌, ◌-◌, ◌<◌, List, [], ◌∷◌, ◌++◌, length, take, refl, ap, ◌∙◌, arith, rules}
use Rattle.std.proofs.lemmas.List.{length-append}
use Rattle.std.proofs.Math.Seq.{get_or-append_seam}
use Rattle.sym_model.specs.Partition.{ArePositive, IsPartition, size, rows, part, insert_part}
use Rattle.sym_model.proofs.Parts.{size-append, part-get_or, falls_front}
use Rattle.sym_model.proofs.SortedParts.{insert_part-front, insert_part_comm}

ArePositive-before : (front : List ℕ) (a : ℕ) → ArePositive (front ++ a ∷ []) → ArePositive front
ArePositive-before [] a p = tt
ArePositive-before (b ∷ front) a p = (p.0, ArePositive-before front a p.1)

positive-last : (front : List ℕ) (a : ℕ) → ArePositive (front ++ a ∷ []) → 0 < a
positive-last [] a p = p.0
positive-last (b ∷ front) a p = positive-last front a p.1

IsPartition-before : (front : List ℕ) (a : ℕ) → IsPartition (front ++ a ∷ []) → IsPartition front
IsPartition-before front a p = record { falls = falls_front front a p.falls; positive = ArePositive-before front a p.positive }

pub insert_part-end : (a : ℕ) (front : List ℕ) → IsPartition (front ++ a ∷ []) → insert_part a front ≡ front ++ a ∷ []
insert_part-end a [] p = insert_part-front a [] p.positive.0 tt
insert_part-end a (b ∷ front) p = search (rules, insert_part-front, IsPartition-before, insert_part_comm, (insert_part-end a front))

-- `parts` is the partition `rest` followed by the positive number a
pub record IsEnded (a : ℕ) (rest parts : List ℕ) : Type 0 where
  pub is : parts ≡ rest ++ a ∷ []
  pub positive : 0 < a
  pub before : IsPartition rest
  pub cells : size parts ≡ a + size rest
  pub count : length parts ≡ suc (length rest)
  pub put : insert_part a rest ≡ parts

pub ended : (a : ℕ) (rest parts : List ℕ) → parts ≡ rest ++ a ∷ [] → IsPartition parts → IsEnded a rest parts
ended a rest parts e p = search (rules, positive-last, IsPartition-before, size-append, length-append, insert_part-end)

pub last_part : (parts : List ℕ) → IsPartition parts → 0 < length parts → (a : ℕ) × (rest : List ℕ) × IsEnded a rest parts
last_part parts p h = let s = split parts h in (s.0, s.1, ended s.0 s.1 parts s.2 p)
  where
    split : (parts : List ℕ) → 0 < length parts → (a : ℕ) × (rest : List ℕ) × (parts ≡ rest ++ a ∷ [])
    split [] h = absurd (omega arith)
    split (a ∷ []) h = (a, [], refl)
    split (a ∷ b ∷ parts) h = let s = split (b ∷ parts) (omega arith) in (s.0, a ∷ s.1, ap (λ l. a ∷ l) s.2)

-- the last part of the list `rest` followed by a is a
pub part-end : (rest : List ℕ) (a : ℕ) → part (rest ++ a ∷ []) (rows (rest ++ a ∷ [])) ≡ a
part-end rest a =
    ap (part (rest ++ a ∷ [])) (length-append rest (a ∷ [])) ∙ part-get_or (rest ++ a ∷ []) (length rest) ∙ get_or-append_seam rest a [] 0

pub take-before : (rest : List ℕ) (a : ℕ) → take (rows (rest ++ a ∷ []) - 1) (rest ++ a ∷ []) ≡ rest
take-before rest a = grind (arith, common_steps)
