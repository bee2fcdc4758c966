mod ImageLaws
mod ChangeLaws
