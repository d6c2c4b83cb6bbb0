-- What holds of all texts, documents and tables of nodes, for the contracts that name it.
use Rattle.documents.specs.Grammar.{TextsAreSpelled, TextsAreUnambiguous, WrongAtOnePlace}
use Rattle.documents.specs.Nodes.{NodesStandForDocuments, NodesStandForOne}
use Rattle.documents.specs.Reading.{ReadingIsOne, LevelsAreOpened, ReadIsSpelled}
use Rattle.documents.specs.Writing.{WritingDocumentsIsOne, ReadIsWrittenBack}
use Rattle.documents.proofs.Levels.{levels_are_opened, read_is_spelled}
use Rattle.documents.proofs.Reading.{reading_is_one, wrong_at_one_place}
use Rattle.documents.proofs.Tables.{nodes_stand_for_documents, nodes_stand_for_one}
use Rattle.documents.proofs.Texts.{texts_are_spelled, texts_are_unambiguous}
use Rattle.documents.proofs.Writing.{writing_documents_is_one, read_is_written_back}

pub reading_laws : ReadingIsOne × ReadIsSpelled × TextsAreUnambiguous × WrongAtOnePlace × LevelsAreOpened × NodesStandForDocuments
reading_laws = (reading_is_one, read_is_spelled, texts_are_unambiguous, wrong_at_one_place, levels_are_opened, nodes_stand_for_documents)

pub writing_laws : WritingDocumentsIsOne × TextsAreSpelled × NodesStandForOne × ReadIsWrittenBack
writing_laws = (writing_documents_is_one, texts_are_spelled, nodes_stand_for_one, read_is_written_back)
