use Rattle.documents.proofs.writer.Table.+measure.Given as goal

abbrev pub decreases-measure : goal.decreases-measure
decreases-measure l = l.k
