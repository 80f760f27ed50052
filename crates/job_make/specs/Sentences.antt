-- What is said of a mistake.
use Rattle.std.specs.Prelude.{ℕ, List, codes}
use Rattle.rule_words.specs.{declared.name.Family.TheVariants.Kind, Names.sentence_of as rule_sentence}
use Rattle.job_make.specs.declared.fault.Mistake.TheVariants.{WrongCharacter, LoneDigit, WrongNumber, UnknownSection, SecondSection, NoEnd, LongBlock, Assembler}
use Rattle.job_make.specs.declared.fault.Mistake.{Mistake}

abbrev pub sentence_of : Mistake → List ℕ
sentence_of WrongCharacter = codes "here may stand two hexadecimal digits a byte, u8:, u16: or u32: and a number, asm, or # and a note"
sentence_of LoneDigit = codes "here may stand two hexadecimal digits a byte, u8:, u16: or u32: and a number, asm, or # and a note"
sentence_of WrongNumber = codes "a number is decimal, or 0x and hexadecimal digits, and fits in its bytes"
sentence_of UnknownSection = codes "no line says section and this name"
sentence_of SecondSection = codes "a later line says section and this name"
sentence_of NoEnd = codes "no line behind asm says end"
sentence_of LongBlock = codes "assembler text has fewer than 4294967295 bytes"
sentence_of (Assembler kind) = rule_sentence (record { family = Kind; number = kind })
