use Rattle.lr_product.proofs.last_rows.+count_chains.Given as goal

abbrev pub decreases-count_chains : goal.decreases-count_chains
decreases-count_chains l = l.up_to
