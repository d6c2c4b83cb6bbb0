use Rattle.verdicts.proofs.prepared.sorting.gather.Given as goal

abbrev pub ghost-rows_of_sort : goal.ghost-rows_of_sort
ghost-rows_of_sort g a = g.test
