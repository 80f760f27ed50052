-- What is printed: a text, or the image of an accepted file, of which the parts of its memory are kept in place of its text.
use Rattle.std.specs.Prelude.{ℕ, List, ◌++◌, codes, Option, None, ⊤}
use Rattle.field_words.specs.{Sizes.most_memory, Writes.Part}
use Rattle.dumper.specs.{Parts.parts_text, Parts.Ascend, Spans.parts_of}
use Rattle.commands.specs.{declared.cause.Cause.Cause, declared.reply.Image.Image, declared.reply.Reply.Reply}
use Rattle.commands.specs.declared.reply.Reply.TheVariants as reply

-- the rows of parts by ascending place, and the last line
unfoldable pub rest_text : List Part → List ℕ
rest_text parts = parts_text parts ++ codes "end\n"

abbrev pub image_text : Image → List ℕ
image_text image = image.head.items ++ rest_text (parts_of image.spans.items)

abbrev pub reply_status : Reply → ℕ
reply_status (reply.Text answer) = answer.status
reply_status (reply.Image image) = 0

abbrev pub reply_text : Reply → List ℕ
reply_text (reply.Text answer) = answer.text.items
reply_text (reply.Image image) = image_text image

-- why the reply refuses
abbrev pub reply_cause : Reply → Option Cause
reply_cause (reply.Text answer) = answer.cause
reply_cause (reply.Image image) = None

-- The parts of an image ascend, and end inside the memory.
abbrev pub IsReplyReady : Reply → Type 0
IsReplyReady (reply.Text answer) = ⊤
IsReplyReady (reply.Image image) = Ascend 0 most_memory (parts_of image.spans.items)
