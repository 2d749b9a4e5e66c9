use Rattle.fs_book.proofs.book.Book.split.Given as goal

abbrev pub ghosts-cut : goal.ghosts-cut
ghosts-cut g a = record { number = a.count }
