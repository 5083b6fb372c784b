-- Lemmas that carry the clauses of the contract of `run` over to the bytes in the caller's buffer.
mod Carried
