-- What a byte of a book text stands for.
use Rattle.std.specs.Prelude.{ℕ, Bool, cond, ◌||◌, ◌==◌}
use Rattle.book_words.specs.declared.bytes.ByteKind.{ByteKind}
use Rattle.book_words.specs.declared.bytes.ByteKind.TheVariants.{Blank, Newline, Sign, Plain}

-- ( ) [ ] , : ! & |
abbrev pub is_sign : ℕ → Bool
is_sign b = b == 40 || (b == 41 || (b == 91 || (b == 93 || (b == 44 || (b == 58 || (b == 33 || (b == 38 || b == 124)))))))

abbrev pub kind_of : ℕ → ByteKind
kind_of b = cond (b == 32) Blank (cond (b == 10) Newline (cond (is_sign b) Sign Plain))
