use Rattle.std.proofs.Common.{◌+◌, ◌*◌, length}
use Rattle.documents.proofs.reader.+item_list.Given as goal

abbrev pub decreases-item : goal.decreases-item
decreases-item l = 2 * length l.text.now

abbrev pub decreases-list : goal.decreases-list
decreases-list l = 2 * length l.text.now + 1
