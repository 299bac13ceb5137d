-- The list of docs/FILE.md is written as the words beside it, by computation; so the theorems speak of something.
-- Assumes nothing.
use mathlib.Core.Path.{◌≡◌, refl}
use Rattle.residue.specs.Prime.{is_prime, remainders_below}
use Rattle.words.specs.Items.{check, after_entry}
use Rattle.writer.specs.Says.{spoken}
use Rattle.writer.specs.Written.{wrote, after_item, unless_stopped, laid_all, whole, said_to, all_taken, closed, onward, write_from, write_records}
use Rattle.editor.specs.Promise.{ReadBack}
use Rattle.editor.specs.Example.{records, tables, words}
use Rattle.editor.proofs.Forwards.{written_is_read}

pub writes : write_records records tables ≡ wrote words
unfolding records tables words spoken check after_entry is_prime remainders_below after_item unless_stopped laid_all whole said_to all_taken closed onward write_from write_records
writes = refl

pub reads_back : ReadBack records tables words
reads_back = written_is_read records tables words writes
