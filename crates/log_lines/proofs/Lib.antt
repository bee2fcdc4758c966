mod BacklogLaws
