use Rattle.documents.proofs.writer.Table.+write.Given as goal

abbrev pub decreases-write : goal.decreases-write
decreases-write l = l.k
